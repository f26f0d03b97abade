use Rattle.std.proofs.Common.{◌≡◌, map}
use Rattle.std.specs.List.{flat_map}
use Rattle.std.specs.Map.Iter.{deref}
use Rattle.setup_report.specs.Naming.{Texts}
use Rattle.command_trace.specs.Lines.{line_at, thread_text_at}
use Rattle.command_trace.specs.Views.{thread_row_line}
use Rattle.command_trace.proofs.lines.messages.thread_rows.Given as goal

abbrev pub invariant-loop-thread : goal.invariant-loop-thread
invariant-loop-thread g l = (texts : Texts) → map (thread_row_line texts) l.rows.items ≡ flat_map (line_at (thread_text_at texts l.kernel)) (map deref l.yielded)
