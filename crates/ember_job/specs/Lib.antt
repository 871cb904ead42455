pub mod Weights
pub mod Works
pub mod Visited
pub mod Items
