pub mod Marked
pub mod Programs
pub mod Sequences
pub mod Reports
pub mod Same
pub mod Questions
pub mod Counted
pub mod Fronts
pub mod Places
mod Statuses
mod Recordings
