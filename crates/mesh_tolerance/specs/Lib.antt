pub mod Triangles
pub mod Distances
pub mod Similar
pub mod Moves
pub mod Meshes
pub mod Files
pub mod Solids
