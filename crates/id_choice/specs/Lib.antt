pub mod RunMaps
pub mod Runs
pub mod Used
