pub mod Fractions
pub mod Values
pub mod Texts
pub mod Floats
pub mod Quotients
pub mod Naturals
