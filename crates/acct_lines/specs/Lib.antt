pub mod DaysValues
pub mod Reading
pub mod Fields
pub mod Shown
pub mod Listed
