-- Waiting threads as rows.
pub mod First
pub mod Queue
pub mod Served
pub mod Room
pub mod Kept
pub mod Behind
pub mod Offers
