pub mod Scan
pub mod Surface
pub mod Stl
pub mod Off
pub mod Wavefront
