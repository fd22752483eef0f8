pub mod BlockKeys
pub mod Granted
pub mod Extending
pub mod Lowest
