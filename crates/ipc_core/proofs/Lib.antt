pub mod Histories
pub mod SendersOrReceivers
pub mod RowForm
pub mod QueueForm
