pub mod Target
pub mod Progress
