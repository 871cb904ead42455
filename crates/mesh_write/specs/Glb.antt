pub mod Bounds
pub mod Widened
pub mod Texts
pub mod Json
pub mod Written
pub mod ReadBack
