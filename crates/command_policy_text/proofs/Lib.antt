pub mod Firsts
pub mod Ordered
pub mod Passed
pub mod Placed
pub mod Whole
