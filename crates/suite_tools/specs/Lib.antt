pub mod Carrying
pub mod Deciding
pub mod Writing
