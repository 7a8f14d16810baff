pub mod UseraddLemmas
pub mod JoiningLemmas
pub mod RangeLemmas
