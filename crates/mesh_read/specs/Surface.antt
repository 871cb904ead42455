pub mod Surfaces
pub mod Flaws
