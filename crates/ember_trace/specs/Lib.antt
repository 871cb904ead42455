pub mod Boxed
pub mod Crossings
pub mod Edges
pub mod FirstCorners
pub mod LineSizes
pub mod Lines
pub mod NearTriangles
pub mod Paths
