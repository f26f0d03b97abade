-- The capabilities of a boot.
pub mod SoundPlans
pub mod Puts
pub mod Spaces
pub mod Places
pub mod BootedStore
pub mod BootedThreads
