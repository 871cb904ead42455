pub mod Nearest
pub mod Decimals
