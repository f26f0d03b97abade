-- A kernel whose capabilities change, and what it shows of them.
pub mod ShownForest
pub mod ShownInvocations
pub mod PlacedSlots
pub mod RearrangedKernel
pub mod RetypedKernel
