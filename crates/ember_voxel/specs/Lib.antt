pub mod Codes
pub mod Lattice
pub mod Fills
pub mod Sides
pub mod Laws
pub mod Grid
pub mod Voxels
pub mod Limits
