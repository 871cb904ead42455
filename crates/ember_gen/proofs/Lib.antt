pub mod States
pub mod Boxes
pub mod Scenes
