pub mod Edges
pub mod Numberings
pub mod Tables
pub mod Drafts
