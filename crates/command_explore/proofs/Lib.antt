-- The keys of a document, and the texts of witnesses.
pub mod Parsed
pub mod Texts
pub mod Places
pub mod Explored
pub mod GroupViews
pub mod Lines
pub mod CallAnswers
pub mod Entries
pub mod NoLonger
pub mod Limits
pub mod Replay
pub mod Counted
pub mod Taken
