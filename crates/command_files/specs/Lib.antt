pub mod Files
pub mod Strict
pub mod Private
