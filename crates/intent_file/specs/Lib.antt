pub mod Intent
pub mod Parts
pub mod Cursor
pub mod Pieces
pub mod Laws
