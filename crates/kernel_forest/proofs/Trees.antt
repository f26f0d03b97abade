-- Forests, and the lists and tests that they are built of.
pub mod Above
pub mod Built
pub mod BuiltOut
pub mod BuiltRenamed
pub mod BuiltRuns
pub mod Forests
pub mod Lines
pub mod Nested
pub mod Parented
pub mod Renamed
pub mod Standing
pub mod Without
