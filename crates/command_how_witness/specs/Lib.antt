-- How it could happen: Witness has what calls show, Text what a text is that is a witness, Excluded what the laws exclude, and
-- Still which parts change no slot, and what passes between their threads.
pub mod Witness
pub mod Text
pub mod Excluded
pub mod Still
pub mod StillDecided
pub mod Private
