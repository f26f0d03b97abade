pub mod Listed
pub mod Moved
pub mod Others
pub mod Unheard
pub mod Ends
pub mod Told
pub mod First
