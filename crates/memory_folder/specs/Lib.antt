pub mod Store
pub mod Events
pub mod Stored
pub mod Plan
pub mod NewTokens
pub mod Logged
pub mod Memory
pub mod MemoryStreams
