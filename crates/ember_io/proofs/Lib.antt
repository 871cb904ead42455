pub mod ToldBytes
pub mod FileIndices
