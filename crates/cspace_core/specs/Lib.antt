pub mod Bits
pub mod Resolution
pub mod Resolves
pub mod Inside
pub mod Target
