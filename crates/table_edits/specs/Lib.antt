pub mod Acting
pub mod Stopping
