pub mod TriangleFaces
pub mod Certified
