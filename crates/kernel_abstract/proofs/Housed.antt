-- Full slots lie in live objects, in each state that runs reach.
pub mod FoundSlots
pub mod Edits
pub mod Boot
