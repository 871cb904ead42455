pub mod Ranges
pub mod Remainders
pub mod Numerators
pub mod Reduced
