-- Lists, and tables with numbers as keys.
pub mod Paired
pub mod Rising
pub mod Numbered
pub mod Tables
pub mod Searches
pub mod Places
