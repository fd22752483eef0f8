pub mod Claims
pub mod Leaves
