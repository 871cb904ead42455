pub mod Broad
pub mod BroadPoints
pub mod Levels
pub mod NarrowLevels
pub mod Laws
pub mod Scenes
pub mod RootFloors
pub mod Heights
