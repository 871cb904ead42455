pub mod Faults
pub mod ReadFile
pub mod Reasons
pub mod Unread
