pub mod Ways
pub mod Joins
pub mod Lists
pub mod Finest
