pub mod Lent
pub mod Taken
pub mod Outcomes
pub mod Calls
pub mod MeshCalls
