pub mod EdgeUses
pub mod Meshes
pub mod SaidLines
pub mod Rounded
pub mod PageReadBack
pub mod FileNumbers
pub mod Viewed
