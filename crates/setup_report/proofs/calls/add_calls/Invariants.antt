use Rattle.std.proofs.Common.{◌≡◌, ◌++◌, ◌+◌, ◌≤◌, drop, string_bytes}
use Rattle.setup_report.specs.Naming.{naming_view}
use Rattle.setup_report.specs.Report.{call_lines, met_count, expectation_count}
use Rattle.setup_report.proofs.calls.add_calls.Given as goal

abbrev pub invariant-loop-i : goal.invariant-loop-i
invariant-loop-i l = record {
  lines : string_bytes l.out ++ call_lines (naming_view l.naming) (l.i + 1) (drop l.i l.setup.calls) (drop l.i l.replies) ≡ string_bytes l.initial.out ++ call_lines (naming_view l.naming) 1 l.setup.calls l.replies;
  met : l.met + met_count (drop l.i l.setup.calls) (drop l.i l.replies) ≡ met_count l.setup.calls l.replies;
  expected : l.expected + expectation_count (drop l.i l.setup.calls) (drop l.i l.replies) ≡ expectation_count l.setup.calls l.replies;
  met_bound : l.met ≤ l.i;
  expected_bound : l.expected ≤ l.i;
}
