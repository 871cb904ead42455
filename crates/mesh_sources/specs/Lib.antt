pub mod Places
pub mod Sources
pub mod Spans
pub mod Marks
pub mod Nodes
