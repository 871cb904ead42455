pub mod Cuts
pub mod Joins
pub mod Numbered
pub mod Soundness
pub mod Faults
