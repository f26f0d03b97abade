pub mod Trees
pub mod Slots
pub mod Disjoint
pub mod Marked
