pub mod AgingFields
pub mod HashLines
