pub mod Alone
pub mod Behind
pub mod Children
pub mod Ended
pub mod Joined
pub mod Lines
pub mod Seen
pub mod ToldAs
