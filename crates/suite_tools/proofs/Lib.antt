pub mod AnswerLemmas
pub mod CarryLemmas
pub mod DecideLemmas
pub mod LinesLemmas
