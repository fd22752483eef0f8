pub mod Truth
pub mod Keeps
