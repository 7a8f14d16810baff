pub mod SeenChanges
pub mod SeenDiff
pub mod Planned
