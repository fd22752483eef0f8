pub mod Grounds
pub mod Answers
