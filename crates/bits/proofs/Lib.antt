pub mod Single
pub mod Words
