pub mod Answers
pub mod Solids
