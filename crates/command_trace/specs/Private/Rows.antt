-- Lines of which no two are of one address.
use Rattle.std.specs.Prelude.{ℕ, ◌==◌}
use Rattle.std.specs.List.{IsDistinct}
use Rattle.command_trace.specs.Lines.{Lines}
use Rattle.command_trace.specs.Changes.{line_addresses}

abbrev pub AreLinesApart : Lines → Type 0
AreLinesApart lines = IsDistinct (λ (a b : ℕ). a == b) (line_addresses lines)
