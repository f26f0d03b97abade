-- Waiting threads as queues inside tables.
pub mod Chains
pub mod Led
pub mod Queues
pub mod QueueReads
pub mod TakenOut
pub mod PutLast
pub mod InTables
pub mod Emptied
pub mod EndpointRows
pub mod Drained
pub mod FirstOut
pub mod Offers
