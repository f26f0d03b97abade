pub mod Laid
pub mod Listing
pub mod Told
pub mod Asked
pub mod Import
pub mod Private
