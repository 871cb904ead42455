pub mod Masks
pub mod Known
pub mod Laws
