-- Objects that end, and threads that wait no more.
pub mod EndedObjects
pub mod EndedKernel
pub mod Deletions
pub mod StoppedKernel
