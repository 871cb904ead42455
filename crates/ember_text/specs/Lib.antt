pub mod Documents
pub mod FacesInTexts
pub mod FacesTexts
pub mod OutlineFaces
pub mod Texts
