pub mod ShownSteps
pub mod OneLines
pub mod Entries
