use Rattle.std.proofs.Common.{◌≡◌, ◌++◌, ◌+◌, drop, string_bytes}
use Rattle.setup_report.specs.Naming.{naming_view}
use Rattle.setup_read.specs.SharedReport.{entry_lines}
use Rattle.setup_read.proofs.shared.add_entries.Given as goal

abbrev pub invariant-loop-i : goal.invariant-loop-i
invariant-loop-i l = string_bytes l.out ++ entry_lines (naming_view l.naming) (l.i + 1) (drop l.i l.history) ≡ string_bytes l.initial.out ++ entry_lines (naming_view l.naming) 1 l.history
