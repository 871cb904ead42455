pub mod Edges
pub mod Turns
pub mod EdgeTriangles
pub mod Splits
pub mod Paired
pub mod Middles
pub mod Cuts
