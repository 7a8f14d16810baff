pub mod AloneLemmas
pub mod TwiceLemmas
pub mod TogetherLemmas
pub mod AskedLemmas
pub mod AnsweredLemmas
pub mod ImageLemmas
pub mod CourseLemmas
pub mod EndingLemmas
