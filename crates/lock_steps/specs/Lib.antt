pub mod States
pub mod LockText
pub mod Stands
pub mod Outcomes
pub mod Steps
pub mod NextCall
pub mod Gathered
pub mod Watching
