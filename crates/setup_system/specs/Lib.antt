-- The languages of layouts.
pub mod Languages
