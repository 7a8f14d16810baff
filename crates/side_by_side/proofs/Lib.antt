pub mod ActLemmas
pub mod SceneLemmas
pub mod StepLemmas
mod StagedLemmas
mod StagedCalls
mod ListLemmas
