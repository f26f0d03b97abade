-- What becomes of a table's members, and that the migrated table is read as the same set-up.
pub mod Parts
pub mod Law
pub mod Texts
