-- Forests of full slots: what each edit of the derivation forest does to what a slot holds.
pub mod Distinct
pub mod DistinctEntries
pub mod Edits
pub mod Emptied
pub mod FirstChildren
pub mod Freed
pub mod Holding
pub mod Moved
pub mod Retyped
