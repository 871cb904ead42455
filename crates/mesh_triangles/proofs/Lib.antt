pub mod Totals
pub mod BoundarySums
pub mod Strands
pub mod MarkSums
pub mod LineSweeps
pub mod Lines
