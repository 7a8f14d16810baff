pub mod Apart
pub mod Deciding
pub mod Top
pub mod Untouched
