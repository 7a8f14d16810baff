pub mod Added
pub mod Allotments
pub mod Plans
