mod Merged
mod Held
mod Made
