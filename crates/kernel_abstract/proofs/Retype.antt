-- Objects that a retype makes: what the derivation forest keeps, and which objects are live.
pub mod LiveRetyped
pub mod RetypeRegions
pub mod PutInOrder
pub mod RetypedForest
pub mod NewlyLive
pub mod ObjectsMade
