pub mod Causes
pub mod Shelves
pub mod Sinks
pub mod Files
pub mod Memory
pub mod Calls
