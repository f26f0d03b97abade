pub mod Expectations
pub mod Grammar
pub mod Promises
