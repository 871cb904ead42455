pub mod Crosses
pub mod Points
