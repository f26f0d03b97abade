-- Which rows of a layout's `cdt` a set-up keeps.
use Rattle.std.specs.Prelude.{ℕ, Bool, true, Option, Some, None}
use Rattle.setup_layout.specs.declared.layout.Row.{Row}

abbrev pub pair_if : Bool → Option ℕ → Option ℕ → Option (ℕ × ℕ)
pair_if true (Some above) (Some below) = Some (above, below)
pair_if _ _ _ = None

-- the slots of a row, if both are there and a kernel can have the second right below the first
abbrev pub row_pair : Row → Option (ℕ × ℕ)
row_pair row = pair_if row.is_possible row.above row.below
