-- Addresses in rising order, full slots by their addresses, and what they name.
pub mod Named
pub mod Rising
pub mod Slots
