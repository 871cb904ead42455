pub mod Closed
pub mod Regions
pub mod Whole
