-- The tables by which a set-up spells its calls.
use Rattle.std.specs.Prelude.{codes, ℕ, List, slice_get, Option, None, option_and_then, Result, Ok, Err}
use Rattle.toml.specs.Data.{Data, Members, get_member, as_array, as_table}
use Rattle.setup_format.specs.Limits.{max_calls}
use Rattle.setup_values.specs.declared.values.Wrong.{Wrong}
use Rattle.setup_values.specs.Kinds.{array_in}

-- the table of the call at a place of a set-up, 0 the first
abbrev pub table_of_call : Result (List Data) Wrong → ℕ → Option Members
table_of_call (Ok calls) i = option_and_then as_table (slice_get calls i)
table_of_call (Err wrong) i = None

-- the table of the call i of a set-up's text
abbrev pub call_table : Members → ℕ → Option Members
call_table setup i = option_and_then (λ calls. table_of_call (array_in 0 max_calls (as_array calls)) i) (get_member (codes "call") setup)
