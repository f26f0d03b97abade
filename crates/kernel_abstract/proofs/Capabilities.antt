-- Capabilities that are derived and moved: what the derivation forest keeps.
pub mod Descendants
pub mod RegionsKept
pub mod RegionsDerived
pub mod RegionsMoved
pub mod StoresKept
pub mod StoresCleared
pub mod LiveAfter
pub mod SpacesSet
pub mod Rearranged
pub mod StaysInMemory
pub mod PlacementSteps
pub mod PutObjects
