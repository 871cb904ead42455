pub mod Meshes
pub mod Fractions
pub mod Scenes
pub mod Texts
pub mod ReadBack
