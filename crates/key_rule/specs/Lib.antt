pub mod Keyed
pub mod Mends
