pub mod Comments
pub mod Fields
pub mod Memberships
pub mod Ranges
