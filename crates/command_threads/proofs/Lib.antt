pub mod Histories
pub mod OwnCalls
pub mod Reports
pub mod Wholes
pub mod Growing
pub mod Beginnings
