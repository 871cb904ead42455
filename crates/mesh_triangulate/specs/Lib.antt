pub mod Corners
pub mod Cuts
pub mod Diagonals
pub mod Lines
