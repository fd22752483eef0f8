pub mod Boards
pub mod Full
