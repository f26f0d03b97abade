-- A run of a witness's set-up comes to what is told.
pub mod Runs
pub mod Waiting
pub mod Waits
pub mod Told
pub mod Picks
pub mod Without
pub mod Numbers
pub mod Operations
pub mod Calls
pub mod Setups
pub mod Plans
pub mod Accepted
pub mod Replayed
