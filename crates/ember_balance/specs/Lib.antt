pub mod Loose
pub mod Numbers
pub mod Counts
pub mod Tallies
