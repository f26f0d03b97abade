use Rattle.std.proofs.Common.{◌≡◌, map}
use Rattle.std.specs.List.{flat_map}
use Rattle.std.specs.Map.Iter.{deref}
use Rattle.setup_report.specs.Naming.{Texts}
use Rattle.command_trace.specs.Lines.{line_at, endpoint_text_at}
use Rattle.command_trace.specs.Views.{endpoint_row_line}
use Rattle.command_trace.proofs.lines.messages.endpoint_rows.Given as goal

abbrev pub invariant-loop-endpoint : goal.invariant-loop-endpoint
invariant-loop-endpoint g l = (texts : Texts) → map (endpoint_row_line texts) l.rows.items ≡ flat_map (line_at (endpoint_text_at texts l.kernel)) (map deref l.yielded)
