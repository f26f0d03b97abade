use Rattle.std.proofs.Common.{◌≡◌, map, take}
use Rattle.std.specs.List.{flat_map}
use Rattle.setup_report.specs.Naming.{naming_view}
use Rattle.command_trace.specs.Views.{line_view}
use Rattle.command_trace.proofs.lines.rows.lines_of.Given as goal

abbrev pub invariant-loop-row : goal.invariant-loop-row
invariant-loop-row g l = map line_view l.lines.items ≡ flat_map (g.R.Row.lines (naming_view l.naming)) (take l.row-index l.rows)
