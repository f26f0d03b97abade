-- What stands below a slot, and what a revoke of the slot takes along if no object with slots ends with it: Below has what
-- is listed, Keyed and Objects say how it is looked up, Runs where what stands below is found.
pub mod Below
pub mod Index
pub mod Keyed
pub mod Objects
pub mod Runs
pub mod Private
