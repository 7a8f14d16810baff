mod Rows
pub mod JournalLemmas
pub mod NameLemmas
pub mod PieceLemmas
pub mod TokenLemmas
pub mod BegunLemmas
pub mod Walks
