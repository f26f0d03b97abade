-- What the values of a set-up's keys are read as.
pub mod Limits
pub mod Names
pub mod Told
pub mod Keys
pub mod Operations
pub mod Kinds
