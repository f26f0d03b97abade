-- What a ghost member cites, with its lemmas: no reader has to believe it.
pub mod Spelled
