pub mod Written
pub mod ReadBack
