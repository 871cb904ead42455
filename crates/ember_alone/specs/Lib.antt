pub mod Touch
pub mod Parting
pub mod UniformSides
pub mod Whole
pub mod Neighbours
