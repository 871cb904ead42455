pub mod Asked
pub mod FaceTables
pub mod Faults
pub mod Meshes
pub mod MeshFaces
pub mod FaceMeshes
pub mod All
