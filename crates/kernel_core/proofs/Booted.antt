-- A booted kernel.
pub mod BootThreads
pub mod BootedParts
