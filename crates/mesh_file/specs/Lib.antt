pub mod Format
pub mod File
