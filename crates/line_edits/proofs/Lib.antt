pub mod ChangedLines
pub mod EditLists
pub mod LeftLemmas
pub mod NamingLemmas
pub mod WrittenLines
pub mod NameSets
pub mod MarkLemmas
mod JoinedTexts
pub mod NameRemovals
pub mod TouchedEdits
