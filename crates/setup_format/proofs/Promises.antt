-- What holds of every set-up that is read.
pub mod Messages
