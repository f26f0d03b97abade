-- The marked list: what it keeps through each edit, and what the edit is to the forest that it stands for.
pub mod ListEdits
pub mod MarkedEdits
pub mod MarkedKept
pub mod MarkedLaw
pub mod MarkedLines
pub mod MarkedPuts
pub mod MarkedReads
pub mod MarkedRemoval
pub mod MarkedRenamed
pub mod MarkedRetype
pub mod MarkedSteps
pub mod OneObject
pub mod Parents
