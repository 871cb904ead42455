pub mod Scaling
pub mod Binary32
