-- The mark of a set-up.
pub mod Marked
