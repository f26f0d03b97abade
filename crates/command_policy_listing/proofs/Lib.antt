mod Words
mod Ordered
mod Pieces
mod Told
