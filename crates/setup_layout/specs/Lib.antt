-- The rows of a layout's `cdt`.
pub mod Rows
