pub mod Triangles
pub mod Stretched
