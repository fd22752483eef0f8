pub mod Round
pub mod Tokens
