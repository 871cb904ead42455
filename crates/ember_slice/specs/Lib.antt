pub mod Lines
pub mod Intervals
pub mod Segments
pub mod Texts
pub mod Crossings
