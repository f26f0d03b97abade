pub mod Places
pub mod Apart
pub mod Lawful
pub mod Placing
pub mod Computed
