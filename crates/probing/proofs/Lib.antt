pub mod Distances
pub mod Closing
pub mod Looking
pub mod TableLaws
pub mod Lowest
