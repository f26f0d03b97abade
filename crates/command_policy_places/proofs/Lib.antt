mod Behind
mod Rows
mod Ways
