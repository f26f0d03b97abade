-- These serve the proofs of private functions, no public contract cites them.
pub mod Nodes
pub mod Tables
pub mod Rows
pub mod Search
pub mod Paths
pub mod Entries
pub mod Exploring
pub mod Layers
