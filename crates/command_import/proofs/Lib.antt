pub mod Rows
pub mod Passed
pub mod Made
pub mod Told
pub mod Alike
pub mod Lists
pub mod Named
pub mod Kept
