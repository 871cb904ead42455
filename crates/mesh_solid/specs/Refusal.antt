pub mod ClosedLines
pub mod Overlaps
pub mod Searches
