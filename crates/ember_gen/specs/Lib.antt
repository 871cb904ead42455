pub mod Numbers
pub mod Blocks
pub mod Scene
pub mod Limits
