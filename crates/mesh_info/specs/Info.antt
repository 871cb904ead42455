pub mod Corners
pub mod Edges
pub mod Bounds
pub mod Volume
pub mod Infos
pub mod Lines
