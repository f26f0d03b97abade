-- What the laws of a trace's lines say.
pub mod Laws
