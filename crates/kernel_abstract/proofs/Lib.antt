-- Laws of the definitions, by subject.
pub mod Lists
pub mod Messages
pub mod Checks
pub mod Capabilities
pub mod Retype
pub mod Boot
pub mod Housed
pub mod Reached
pub mod Cancelling
