pub mod Copies
pub mod Places
mod Asks
mod Grants
