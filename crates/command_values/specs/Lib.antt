pub mod Options
pub mod Forms
pub mod Chosen
pub mod FieldNumbers
pub mod Ranges
