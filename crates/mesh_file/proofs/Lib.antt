pub mod GltfReasons
pub mod Limits
pub mod NamedFormats
pub mod StlFiles
pub mod TextParts
