-- What is found at the address that a text means, loops over entries, and the rows of the full slots.
pub mod Called
pub mod Groups
pub mod Loops
pub mod Rows
pub mod Strokes
