-- The migrated table is read as the same set-up.
pub mod Follows
pub mod Operations
pub mod Names
pub mod Calls
pub mod Plans
pub mod Setups
pub mod Bytes
