pub mod Weights
pub mod Boxes
