pub mod Targets
pub mod Memory
pub mod Several
