-- What a policy was read as: Listing has the lines, Listed what is written of a set-up, and Told what equal listings say.
pub mod Listing
pub mod Listed
pub mod Told
