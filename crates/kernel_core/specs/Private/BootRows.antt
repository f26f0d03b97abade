-- These serve the proofs of private functions, no public contract cites them: the rows of the boot threads.
use Rattle.std.specs.Prelude.{ℕ, ◌+◌, false, ◌&&◌, nat_le, nat_lt, cond, List, map, Option, Some, None}
use Rattle.std.specs.List.{range_with_len}
use Rattle.kernel_core.specs.declared.rows.ThreadRow.{ThreadRow}

-- a ready thread to which nothing was delivered
abbrev pub ready_row : ThreadRow
ready_row = record { inactive = false; inbox = None }

-- row k, if the first thread has the row `first`
abbrev pub boot_row : ℕ → ℕ → ℕ → Option ThreadRow
boot_row first threads k = cond (nat_le first k && nat_lt k (first + threads)) (Some ready_row) None

abbrev pub boot_rows : ℕ → ℕ → ℕ → List (Option ThreadRow)
boot_rows first threads count = map (boot_row first threads) (range_with_len 0 count)
