-- What a set-up is read as, by its grammar; Private has what only serves the proofs.
pub use Rattle.setup_values.specs.Names
pub use Rattle.setup_values.specs.Keys
pub use Rattle.setup_values.specs.Kinds
pub mod Limits
pub mod Faults
pub mod Tables
pub mod Views
pub mod Expectations
pub mod Operations
pub mod Messages
pub mod Setups
pub mod Read
pub mod Laws
pub mod Refusal
pub mod Private
