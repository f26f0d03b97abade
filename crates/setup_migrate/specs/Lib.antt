-- What a set-up of format 1 is migrated to.
pub mod Migration
