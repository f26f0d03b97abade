-- Lemmas on histories, on what clients see of them, and on drives.
pub mod Numbered
pub mod Lawfully
pub mod Shows
pub mod Taken
pub mod Seats
pub mod Keeping
pub mod Publishing
pub mod Clients
pub mod Answered
pub mod Places
pub mod Threes
pub mod Drives
pub mod Equal
pub mod Grows
