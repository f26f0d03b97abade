-- What the laws of a report's texts say.
pub mod Laws
