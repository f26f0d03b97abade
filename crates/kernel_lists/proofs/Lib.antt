pub mod Counting
pub mod Shares
pub mod Merging
pub mod Weights
