pub mod UserdelLemmas
pub mod OtherNumbers
