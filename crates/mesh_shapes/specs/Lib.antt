pub mod Texts
pub mod Shapes
