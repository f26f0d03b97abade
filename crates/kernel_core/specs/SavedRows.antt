-- The rows of threads, by those that there are.
use Rattle.std.specs.Prelude.{ℕ, ◌-◌, ◌^◌, List, Option, None, Some, replicate, fold, slice_set}
use Rattle.cap_core.specs.declared.profile.ProfileName.{ProfileName}
use Rattle.cap_core.specs.Numbers.{tcb_bits}
use Rattle.kernel_core.specs.declared.rows.ThreadRow.{ThreadRow}
use Rattle.kernel_core.specs.declared.rows.LiveRow.{LiveRow}

abbrev pub with_row : List (Option ThreadRow) → LiveRow → List (Option ThreadRow)
with_row rows live = slice_set rows live.place (Some live.row)

-- the rows, with these at their places
abbrev pub rows_with : List (Option ThreadRow) → List LiveRow → List (Option ThreadRow)
rows_with = fold with_row

-- the rows of a memory, if these are all
abbrev pub rows_saved : ProfileName → ℕ → List LiveRow → List (Option ThreadRow)
rows_saved p memory = rows_with (replicate (2 ^ (memory - tcb_bits p)) None)
