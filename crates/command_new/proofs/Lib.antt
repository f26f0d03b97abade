pub mod Appended
pub mod Fitting
pub mod Larger
pub mod Named
pub mod OneCall
pub mod Slots
