pub mod Addresses
pub mod Sequences
pub mod Runs
pub mod Joined
pub mod ByNames
pub mod Digits
pub mod Seen
