pub mod Rows
pub mod Walked
