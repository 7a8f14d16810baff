pub mod PieceLemmas
pub mod SizeLemmas
mod Rows
pub mod PartsLemmas
pub mod CursorLemmas
pub mod TakesLemmas
pub mod IntentLemmas
pub mod ChangedTablesLemmas
pub mod SpelledLemmas
pub mod Reading
pub mod FirstFaultIsOne
pub mod EachTextReadsOrFails
