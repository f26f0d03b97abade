pub use Rattle.kernel_forest.proofs.Trees.Forests
pub use Rattle.kernel_forest.proofs.Trees.Built
pub use Rattle.kernel_forest.proofs.Trees.BuiltOut
pub use Rattle.kernel_forest.proofs.Trees.BuiltRenamed
pub use Rattle.kernel_forest.proofs.Trees.Nested
pub use Rattle.kernel_forest.proofs.Trees.Lines
pub use Rattle.kernel_forest.proofs.Trees.Renamed
pub use Rattle.kernel_forest.proofs.Slots.Edits
pub use Rattle.kernel_forest.proofs.Slots.Holding
pub use Rattle.kernel_forest.proofs.Slots.Distinct
pub use Rattle.kernel_forest.proofs.Slots.DistinctEntries
pub use Rattle.kernel_forest.proofs.Slots.Emptied
pub use Rattle.kernel_forest.proofs.Slots.Freed
pub use Rattle.kernel_forest.proofs.Slots.Moved
pub use Rattle.kernel_forest.proofs.Slots.Retyped
pub use Rattle.kernel_forest.proofs.Slots.FirstChildren
pub use Rattle.kernel_forest.proofs.Disjoint.Disjointness
pub use Rattle.kernel_forest.proofs.Disjoint.DisjointRenamed
pub use Rattle.kernel_forest.proofs.Disjoint.DisjointDerived
pub use Rattle.kernel_forest.proofs.Disjoint.DisjointRetyped
pub use Rattle.kernel_forest.proofs.Disjoint.Alike
mod RowStores
mod LinkedStores
