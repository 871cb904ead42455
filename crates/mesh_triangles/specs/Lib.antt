pub mod Strands
pub mod Marks
pub mod Walks
pub mod PlaneQueries
