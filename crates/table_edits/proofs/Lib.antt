pub mod ActingLemmas
pub mod OtherUsers
