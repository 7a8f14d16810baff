pub mod Reasons
pub mod Answers
pub mod Fronts
pub mod Changes
