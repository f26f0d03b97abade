pub mod Inputs
pub mod Levels
pub mod ReadBack
pub mod Rows
pub mod Walked
