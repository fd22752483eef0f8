pub mod Extents
pub mod Runs
pub mod Laws
pub mod OnPath
