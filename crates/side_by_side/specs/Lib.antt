pub mod Places
pub mod Scenes
pub mod Steps
pub mod Advances
pub mod Staged
pub mod Lists
