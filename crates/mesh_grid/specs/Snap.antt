pub mod Sizes
pub mod Steps
pub mod Cells
pub mod Spans
pub mod Offsets
pub mod Decimals
