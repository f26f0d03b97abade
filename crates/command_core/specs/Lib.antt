pub mod Limits
pub mod Devices
pub mod Runs
pub mod Statuses
