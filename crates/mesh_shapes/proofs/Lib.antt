pub mod FractionTexts
pub mod CoordinateTexts
pub mod SurfaceTexts
pub mod ShapesRead
pub mod ShapeFiles
