pub mod Verdicts
pub mod Tallies
pub mod Sequences
mod Writes
