-- The states that runs reach.
pub mod Equations
pub mod Runs
pub mod Invariant
pub mod Stores
pub mod Simulation
pub mod NewEndpoints
pub mod EndedEndpoints
