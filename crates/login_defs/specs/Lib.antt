pub mod Places
pub mod KeyValues
pub mod Held
pub mod LineSetting
pub mod Faults
