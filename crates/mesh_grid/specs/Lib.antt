pub mod Snap
pub mod Grid
pub mod Moves
