-- What is told of a layout that is held to a policy: Calls has which calls break it, Names, Told and Order the lines, Kinds which of them
-- there are, Places where breaches come from, and Texts all of it.
pub mod Calls
pub mod Names
pub mod Order
pub mod Told
pub mod Kinds
pub mod Places
pub mod Texts
