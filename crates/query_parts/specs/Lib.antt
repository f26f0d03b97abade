-- Confinement: Parts has what parts are, Laws what the laws say of them, Delivered which deliveries replies show, Listed
-- parts as lists with their test, Keyed uses by a key, Ever what the test shows, Order in which order parts are listed,
-- Least what the least parts are, Below what a revoke in one part takes from another, Passing what
-- holds of parts that only pass messages, Regions where the objects come from that a part names, and
-- Private what serves the proofs of private functions.
pub mod Parts
pub mod Laws
pub mod Delivered
pub mod Listed
pub mod Keyed
pub mod Ever
pub mod Order
pub mod Least
pub mod Below
pub mod Passing
pub mod Regions
pub mod Private
