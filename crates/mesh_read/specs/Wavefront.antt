pub mod Rows
pub mod RowViews
pub mod Faults
pub mod ReadWavefront
