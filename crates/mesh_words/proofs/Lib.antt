pub mod WordArguments
pub mod Parts
pub mod Signs
pub mod Spellings
