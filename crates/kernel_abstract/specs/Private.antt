-- These serve the proofs of private functions, no public contract cites them.
pub mod Effects
pub mod Invocations
pub mod Stores
pub mod Endings
