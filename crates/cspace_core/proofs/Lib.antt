pub mod Bits
pub mod Nodes
pub mod Steps
pub mod Inside
