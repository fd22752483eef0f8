pub mod Forgets
pub mod Lowest
