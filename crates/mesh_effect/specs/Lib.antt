pub mod Rounding
pub mod Facing
