pub mod CountLines
pub mod FileObjects
pub mod VolumeLines
pub mod VolumeSizes
pub mod LyingLines
