-- Flow has what may stand in which slots and when that is settled, Laws what the laws say of it, Listed flows as lists and their test, Excluded
-- what is excluded between two threads, and Apart the tests of that. Private only serves proofs.
pub mod Flow
pub mod Laws
pub mod Listed
pub mod Excluded
pub mod Apart
pub mod Private
