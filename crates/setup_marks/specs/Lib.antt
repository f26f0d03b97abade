-- The mark of a set-up of `import --flows`.
pub mod Marks
