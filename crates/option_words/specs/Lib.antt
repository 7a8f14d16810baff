pub mod Meanings
pub mod Parsed
pub mod Reading
pub mod Batch
