-- Cancellation of records that wait, and the ending of objects.
pub mod Records
pub mod InvariantKept
pub mod Waiting
pub mod States
pub mod Ended
pub mod Stopped
pub mod Badged
pub mod NothingEnds
pub mod ObjectsAdded
