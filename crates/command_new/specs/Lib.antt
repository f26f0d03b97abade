pub mod Slots
pub mod Text
pub mod New
pub mod Private
