pub mod FirstRefusal
pub mod ListedTables
pub mod RowLemmas
