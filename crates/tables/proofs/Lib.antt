pub mod Lowest
pub mod Looks
