pub mod Accepting
pub mod TableEdits
pub mod TableCells
pub mod Met
pub mod LastEdits
pub mod FirstMet
pub mod Changed
pub mod Keys
