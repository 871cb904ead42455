pub mod Texts
pub mod Objects
