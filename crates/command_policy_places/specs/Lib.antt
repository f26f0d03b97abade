-- Where what breaks a policy comes from.
pub mod Places
