pub mod Divisors
pub mod PlaneKeys
pub mod LineKeys
pub mod Lacks
