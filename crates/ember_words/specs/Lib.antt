pub mod Limits
pub mod Commands
pub mod WordsCommand
pub mod Canonical
pub mod Within
