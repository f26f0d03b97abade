use Rattle.std.proofs.Common.{◌≡◌, map}
use Rattle.std.specs.List.{flat_map}
use Rattle.std.specs.Map.Iter.{deref}
use Rattle.setup_report.specs.Naming.{Texts}
use Rattle.command_trace.specs.Lines.{line_at, inbox_line_at}
use Rattle.command_trace.specs.Views.{inbox_line}
use Rattle.command_trace.proofs.lines.messages.inbox_rows.Given as goal

abbrev pub invariant-loop-thread : goal.invariant-loop-thread
invariant-loop-thread g l = (texts : Texts) → map (inbox_line texts) l.rows.items ≡ flat_map (line_at (inbox_line_at texts l.kernel)) (map deref l.yielded)
