-- These serve the proofs of private functions, no public contract cites them.
pub mod BootRows
pub mod NewRows
pub mod RowsEnd
pub mod Ended
pub mod Spaces
