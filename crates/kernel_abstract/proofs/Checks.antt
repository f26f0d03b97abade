-- What checks that passed show of a call.
pub mod Walked
pub mod FoundSlots
pub mod FilledSlots
pub mod LiveEndpoints
pub mod PassedCNodeChecks
pub mod PassedSpaceChecks
pub mod PassedInvocations
pub mod Refusals
