pub mod LongDivision
pub mod LowestRemainders
pub mod Signed
pub mod ReducedPoints
