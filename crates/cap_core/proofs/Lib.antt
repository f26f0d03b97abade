pub mod Ranges
pub mod Sizes
pub mod Minting
pub mod Distinct
