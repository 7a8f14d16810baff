pub mod Paths
pub mod Untold
