-- How it could happen: Line has the line of an answer that is no witness, and How what the program writes.
pub mod Line
pub mod How
