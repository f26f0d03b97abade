-- What the grammar reads of bytes, keys, tables and calls.
pub mod Bytes
pub mod Keys
pub mod Ends
pub mod Beside
pub mod Entries
pub mod Parts
pub mod Reads
