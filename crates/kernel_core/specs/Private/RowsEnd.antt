-- These serve the proofs of private functions, no public contract cites them: where the rows of threads end.
use Rattle.std.specs.Prelude.{◌≡◌, ℕ, ◌≤◌, List, length, slice_index_or, Option, None}
use Rattle.kernel_core.specs.declared.rows.ThreadRow.{ThreadRow}

-- no place from `end` on has a row
pub record IsRowsEnd (end : ℕ) (places : List (Option ThreadRow)) : Type 0 where
  pub within : end ≤ length places
  pub none_from : (k : ℕ) → end ≤ k → slice_index_or places k None ≡ None
