-- The rows of threads, and what is shown of them.
pub mod KeyedRows
pub mod RowsEnd
pub mod Addresses
pub mod RowViews
pub mod NewThreads
