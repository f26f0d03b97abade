-- What only private contracts cite, in proofs of the public ones: nobody has to believe it.
pub mod Listed
pub mod Path
pub mod Rows
pub mod Kept
pub mod Derived
