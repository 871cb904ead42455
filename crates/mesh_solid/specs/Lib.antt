pub mod Outline
pub mod Tables
pub mod Winding
pub mod Refusal
pub mod Mesh
