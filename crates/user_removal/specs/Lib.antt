pub mod Removals
pub mod KeptGroups
pub mod Others
