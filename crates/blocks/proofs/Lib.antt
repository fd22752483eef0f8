pub mod Sums
pub mod Changes
