-- The audit of a set-up: Text has its lines, Spaces who can name just the same, Threads what each thread can name, Channels who can send to whom, Ends and Revokes
-- what a revoke would do, Audit all of it.
pub mod Text
pub mod Spaces
pub mod Threads
pub mod Channels
pub mod Ends
pub mod Revokes
pub mod Audit
pub mod Audits
