pub mod Facets
pub mod Ascii
pub mod Binary
pub mod ReadStl
