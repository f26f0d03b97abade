-- The rows of a store: where they stand, what each call makes of them, and what that is to the forest.
pub mod RowEdits
pub mod RowLists
pub mod RowRemoves
pub mod RowSteps
pub mod RowViews
pub mod RowWalks
