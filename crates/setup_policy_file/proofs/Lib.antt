-- Loops that read each element of a list, lists in which none stands twice, and what a table says.
pub mod Apart
pub mod Appended
pub mod Known
pub mod Loops
pub mod Said
