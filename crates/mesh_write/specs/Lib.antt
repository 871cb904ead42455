pub mod Vertices
pub mod Text
pub mod Stl
pub mod Glb
pub mod Reading
