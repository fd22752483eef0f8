pub mod Lengths
pub mod Smalls
pub mod Printing
