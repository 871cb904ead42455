pub mod Weights
pub mod Leaves
pub mod Members
