pub mod Corners
pub mod NextLines
pub mod Tables
pub mod NamedTriangles
pub mod WholeTriangles
