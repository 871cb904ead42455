pub mod SortedSurplus
pub mod EdgeNumbers
pub mod Edges
pub mod Sorted
pub mod Least
pub mod Balanced
pub mod TwoWay
