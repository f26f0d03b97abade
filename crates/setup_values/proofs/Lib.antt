-- What kinds read of names, of arrays and of words.
pub mod LookUp
pub mod Loops
pub mod Named
pub mod Padding
