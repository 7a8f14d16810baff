pub mod States
pub mod Stands
pub mod Outcomes
pub mod Walks
pub mod NextCall
