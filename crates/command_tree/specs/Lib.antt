-- The derivation forest of a set-up as text: Tree is what is promised of it, Trees what the program
-- writes of an input, Laws what the law of its lines says; Private has what the proofs speak of beside it.
pub mod Tree
pub mod Trees
pub mod Laws
pub mod Private
