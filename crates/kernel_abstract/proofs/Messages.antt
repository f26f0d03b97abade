-- Sends and receives: what each does to the pairs, to who waits and to the inboxes.
pub mod Inboxes
pub mod WaitingSend
pub mod WaitingReceive
pub mod DeliveredSend
pub mod DeliveredReceive
pub mod WaitsOnce
pub mod RecordsAdded
pub mod CompletedPairs
