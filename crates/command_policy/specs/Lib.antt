-- A set-up held to a policy.
pub mod Policies
