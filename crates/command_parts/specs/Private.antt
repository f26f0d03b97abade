-- What the contracts of private functions cite.
pub mod Used
pub mod Lines
