pub mod Parts
pub mod Writing
pub mod Showing
pub mod Leaving
pub mod Stacked
