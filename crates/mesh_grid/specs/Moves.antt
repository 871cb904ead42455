pub mod Moves
pub mod Greatest
pub mod Shown
