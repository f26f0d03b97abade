pub mod Tables
pub mod Kernels
pub mod Progress
pub mod Waiting
pub mod Ways
pub mod Grouping
pub mod Shared
