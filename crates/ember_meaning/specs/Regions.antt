pub mod Meaning
pub mod Nearby
pub mod All
pub mod Solids
