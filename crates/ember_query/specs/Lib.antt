pub mod Leaves
pub mod BroadLeaves
pub mod Queries
