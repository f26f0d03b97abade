pub mod Cuts
pub mod Widened
pub mod Regions
pub mod EndOfLine
pub mod Asked
