use Rattle.std.proofs.Common.{◌≡◌, ◌+◌, ◌≤◌, drop}
use Rattle.setup_report.specs.Report.{met_count, expectation_count}
use Rattle.setup_report.proofs.calls.expectations.Given as goal

abbrev pub invariant-loop-i : goal.invariant-loop-i
invariant-loop-i l = record {
  met : l.met + met_count (drop l.i l.setup.calls) (drop l.i l.replies) ≡ met_count l.setup.calls l.replies;
  expected : l.expected + expectation_count (drop l.i l.setup.calls) (drop l.i l.replies) ≡ expectation_count l.setup.calls l.replies;
  met_bound : l.met ≤ l.i;
  expected_bound : l.expected ≤ l.i;
}
