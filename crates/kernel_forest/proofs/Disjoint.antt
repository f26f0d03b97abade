-- Live objects are disjoint, and each edit of the derivation forest keeps them so.
pub mod Alike
pub mod DisjointDerived
pub mod DisjointEmptied
pub mod DisjointRenamed
pub mod DisjointRetyped
pub mod Disjointness
pub mod InRegion
