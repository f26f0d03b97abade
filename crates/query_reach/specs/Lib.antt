-- What threads can name. Reaching says which slots a word leads to, Lists what a list of them is, Holding which an
-- index and a depth name besides, FullSlots what such a list is made from; Laws, Listed and
-- OneCall have what the laws say.
pub mod Reaching
pub mod FullSlots
pub mod Lists
pub mod Holding
pub mod Endpoints
pub mod Channels
pub mod ByEndpoint
pub mod Laws
pub mod Listed
pub mod OneCall
pub mod Private
pub mod Chain
