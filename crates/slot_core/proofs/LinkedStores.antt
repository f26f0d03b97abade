-- The table of a linked store: what each edit is to the list that it leads along, and what each call is to the forest.
pub mod Chains
pub mod LinkedCalls
pub mod LinkedLaw
pub mod LinkedMade
pub mod LinkedReads
pub mod LinkedRows
pub mod LinkedSteps
pub mod Linkings
pub mod Replacings
pub mod Unlinkings
pub mod Walked
