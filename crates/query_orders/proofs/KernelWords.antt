pub mod Codes
pub mod Forests
pub mod Fronts
pub mod Telling
pub mod WaitingLists
