pub mod Ordered
pub mod Tables
pub mod OrderedLaws
