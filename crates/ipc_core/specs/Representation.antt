-- How the two forms keep the threads that wait. The clauses of `Waiters` name none of it.
pub mod Rows
pub mod Chains
pub mod Linked
