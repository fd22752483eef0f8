pub mod Spreads
pub mod Calls
pub mod Holding
pub mod Rows
