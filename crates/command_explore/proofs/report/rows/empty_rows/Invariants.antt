use Rattle.command_explore.specs.Rows.{AreEmptyRows}
use Rattle.command_explore.proofs.report.rows.empty_rows.Given as goal

abbrev pub invariant-loop-i : goal.invariant-loop-i
invariant-loop-i l = AreEmptyRows l.rows.items
