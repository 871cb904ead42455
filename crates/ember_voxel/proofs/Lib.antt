pub mod Rows
pub mod Ceilings
pub mod GridTexts
pub mod Covering
pub mod CellValues
pub mod OneText
