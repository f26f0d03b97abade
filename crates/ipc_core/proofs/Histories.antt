-- What the histories of an endpoint say: who waits, what a cancellation takes out, and what is delivered.
pub mod Pairs
pub mod Cancelling
pub mod Deliveries
