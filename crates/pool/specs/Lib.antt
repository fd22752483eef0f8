pub mod Enter
pub mod Pool
