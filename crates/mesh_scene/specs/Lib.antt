pub mod Scene
pub mod SceneFile
