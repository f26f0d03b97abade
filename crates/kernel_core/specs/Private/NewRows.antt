-- These serve the proofs of private functions, no public contract cites them: the rows of new threads,
-- and of threads that are stopped.
use Rattle.std.specs.Prelude.{ℕ, Bool, List, [], ◌∷◌, Option, None, true, option_and_then}
use Rattle.std.specs.Ordering.{nat_cmp}
use Rattle.std.specs.FinMap.{FinMap, get, insert}
use Rattle.kernel_core.specs.declared.rows.ThreadRow.{ThreadRow}

-- the row of a thread that was just made: it is inactive and got no message
abbrev pub new_row : ThreadRow
new_row = record { inactive = true; inbox = None }

-- new threads get their rows
abbrev pub with_rows : List ℕ → FinMap nat_cmp ThreadRow → FinMap nat_cmp ThreadRow
with_rows [] rows = rows
with_rows (base ∷ bases) rows = with_rows bases (insert rows base new_row)

-- a row of a thread that is inactive or not, with the inbox of the row that it had
abbrev pub stopped_row : Bool → Option ThreadRow → ThreadRow
stopped_row inactive row = record { inactive = inactive; inbox = option_and_then (λ (r : ThreadRow). r.inbox) row }

abbrev pub with_stopped : ℕ → Bool → FinMap nat_cmp ThreadRow → FinMap nat_cmp ThreadRow
with_stopped thread inactive rows = insert rows thread (stopped_row inactive (get rows thread))
