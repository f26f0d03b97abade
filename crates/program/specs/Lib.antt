pub mod Commas
pub mod Ends
pub mod Host
pub mod Jobs
pub mod NewWords
pub mod Private
pub mod Texts
pub mod WitnessWords
