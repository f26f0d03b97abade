-- What is right to write for a set-up whose clients share a kernel; Private has what only serves the proofs.
pub mod SharedRuns
pub mod Private
