pub mod Rows
pub mod Fewer
