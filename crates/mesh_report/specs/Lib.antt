pub mod Volumes
pub mod Lying
pub mod Reports
pub mod Messages
pub mod ReportObjects
pub mod Said
