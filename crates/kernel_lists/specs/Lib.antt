pub mod Shares
pub mod Firsts
