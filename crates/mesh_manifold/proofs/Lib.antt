pub mod EdgeLists
pub mod Splits
pub mod Cuts
