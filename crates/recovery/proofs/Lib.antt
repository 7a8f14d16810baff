pub mod CarryLemmas
pub mod LeadsLemmas
pub mod RecoversLemmas
pub mod OutcomesLemmas
pub mod NextLemmas
