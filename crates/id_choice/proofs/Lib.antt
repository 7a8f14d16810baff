pub mod AddedRuns
pub mod ChoiceLemmas
pub mod RemovedRuns
pub mod RunLemmas
pub mod UsedLemmas
