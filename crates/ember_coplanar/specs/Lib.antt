pub mod TrianglePlane
