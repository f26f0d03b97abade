-- A layout held to a policy: Layouts has what of a state is held to it, Sides which part may do what on an endpoint, Joins which parts
-- Grant joins, Breaches what no entry lets a part have, Ways what no way lets pass, Takes what no entry lets a part take from another,
-- and Unused what is allowed and not there.
pub mod Layouts
pub mod Sides
pub mod Joins
pub mod Breaches
pub mod Ways
pub mod Takes
pub mod Unused
