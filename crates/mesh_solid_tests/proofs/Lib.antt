pub mod StretchedScenes
