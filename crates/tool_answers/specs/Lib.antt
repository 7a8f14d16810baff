pub mod Refusing
pub mod Decisions
