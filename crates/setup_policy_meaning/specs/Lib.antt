pub mod Meant
pub mod Policies
pub mod Regions
