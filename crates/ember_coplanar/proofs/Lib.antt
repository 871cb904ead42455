pub mod Containing
pub mod Coplanar
pub mod Owning
