pub mod Info
pub mod Page
pub mod View
