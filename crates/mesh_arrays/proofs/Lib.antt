pub mod DoubleTexts
pub mod InOrder
pub mod Refused
