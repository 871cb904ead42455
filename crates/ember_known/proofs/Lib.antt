pub mod Decided
pub mod Bits
