mod Below
mod KeptForests
mod MemoryTyped
