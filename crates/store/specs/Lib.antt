pub mod Whole
pub mod Full
pub mod InStep
