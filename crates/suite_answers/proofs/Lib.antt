pub mod FrontLemmas
pub mod PushLemmas
mod ReasonRows
pub mod ChangeLemmas
