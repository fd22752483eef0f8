pub mod Covers
pub mod Nexts
pub mod Walks
pub mod Counted
pub mod Numbers
pub mod Remaking
