pub mod Meets
pub mod Quotients
