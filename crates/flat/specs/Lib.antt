pub mod Flat
pub mod Full
