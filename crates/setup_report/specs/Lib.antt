-- The text of a report, and how it names objects, slots and threads (Naming); State has what is written about a state, Behind the state
-- behind some of the calls, and Private what only serves the proofs.
pub mod Naming
pub mod Text
pub mod State
pub mod Behind
pub mod Report
pub mod Private
pub mod Words
pub mod Meant
pub mod Slots
