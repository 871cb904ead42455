pub mod Sources
pub mod Meshes
pub mod Solids
pub mod Faults
pub mod Asked
pub mod Lines
pub mod Outcomes
