pub mod TestForests
pub mod Memory
