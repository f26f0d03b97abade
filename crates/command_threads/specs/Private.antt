-- What only private contracts cite, in proofs of the public ones: nobody has to believe it.
pub mod Settled
pub mod Begun
