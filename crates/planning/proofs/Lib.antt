pub mod Texts
pub mod Counts
