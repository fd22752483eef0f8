pub mod Entering
pub mod Giving
