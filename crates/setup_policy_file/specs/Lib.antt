pub mod Files
pub mod Lists
pub mod Values
pub mod Private
