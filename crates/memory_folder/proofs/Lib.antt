pub mod StoreLemmas
pub mod TokenLemmas
pub mod NewTokenLemmas
pub mod NumberLemmas
pub mod FolderLemmas
pub mod EventLemmas
pub mod ResultLemmas
pub mod ToldLemmas
mod StreamLemmas
