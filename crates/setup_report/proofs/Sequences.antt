-- Lists that are read from their front.
pub mod Calls
pub mod Fronts
pub mod Begins
