-- Lemmas on the kernel's parts, by subject.
pub mod Threads
pub mod Booted
pub mod Messages
pub mod Capabilities
pub mod Endings
pub mod Saved
