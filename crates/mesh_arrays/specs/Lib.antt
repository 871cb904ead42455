pub mod Arrays
pub mod Faults
pub mod Doubles
pub mod Indices
