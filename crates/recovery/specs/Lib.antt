pub mod Carrying
pub mod States
pub mod Stands
pub mod Outcomes
pub mod NextCall
