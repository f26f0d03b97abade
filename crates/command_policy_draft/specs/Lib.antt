-- The policy that a layout keeps now.
pub mod Drafts
