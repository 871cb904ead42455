pub mod Words
pub mod Files
pub mod Images
pub mod ShapeWords
