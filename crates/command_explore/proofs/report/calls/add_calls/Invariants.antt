use Rattle.std.proofs.Common.{◌≡◌, ◌++◌, ◌+◌, ◌≤◌, drop, string_bytes}
use Rattle.query_orders.specs.Found.{answers_of}
use Rattle.setup_report.specs.Naming.{naming_view}
use Rattle.command_explore.specs.Numbers.{numbers_in}
use Rattle.command_explore.specs.Text.{call_blocks, met_in_orders, expectations_of_calls}
use Rattle.command_explore.proofs.report.calls.add_calls.Given as goal

abbrev pub invariant-loop-i : goal.invariant-loop-i
invariant-loop-i l = record {
  lines : string_bytes l.out ++ call_blocks (naming_view l.naming) (numbers_in l.numbers) (l.i + 1) l.is_whole (answers_of l.answers) (drop l.i l.setup.calls) ≡ string_bytes l.fn.out ++ call_blocks (naming_view l.naming) (numbers_in l.numbers) 1 l.is_whole (answers_of l.answers) l.setup.calls;
  met : l.met + met_in_orders (numbers_in l.numbers) (l.i + 1) l.is_whole (answers_of l.answers) (drop l.i l.setup.calls) ≡ met_in_orders (numbers_in l.numbers) 1 l.is_whole (answers_of l.answers) l.setup.calls;
  expected : l.expected + expectations_of_calls (drop l.i l.setup.calls) ≡ expectations_of_calls l.setup.calls;
  met_bound : l.met ≤ l.i;
  expected_bound : l.expected ≤ l.i;
}
