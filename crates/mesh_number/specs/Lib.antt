pub mod Number
pub mod Round
pub mod Float
pub mod Limits
