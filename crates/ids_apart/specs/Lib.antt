pub mod Apart
pub mod Holders
pub mod Laws
