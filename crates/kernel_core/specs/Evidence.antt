-- Lemmas that the clauses of private functions cite: no reader has to believe them.
pub mod EndedLaws
