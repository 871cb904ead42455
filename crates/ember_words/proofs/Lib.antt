pub mod Numbers
pub mod Parts
pub mod ClapValues
pub mod Refusals
pub mod OptionWalk
pub mod CanonicalWords
pub mod Limited
pub mod NamedFiles
