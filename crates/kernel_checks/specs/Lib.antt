-- What the checks of a call show besides the abstract kernel's definitions of them: what a reason says is so, the way of a
-- lookup, and hints.
pub mod Seen
pub mod Facts
pub mod Laws
pub mod Paths
pub mod Hints
