use Rattle.std.proofs.Common.{◌≡◌, ◌++◌, ◌+◌, drop, string_bytes}
use Rattle.query_orders.specs.Found.{stuck_of}
use Rattle.setup_report.specs.Naming.{naming_view}
use Rattle.command_explore.specs.Numbers.{numbers_in}
use Rattle.command_explore.specs.Text.{stuck_blocks}
use Rattle.command_explore.proofs.report.ends.add_stuck.Given as goal

abbrev pub invariant-loop-i : goal.invariant-loop-i
invariant-loop-i l = string_bytes l.out ++ stuck_blocks (naming_view l.naming) (numbers_in l.numbers) (l.i + 1) (stuck_of (drop l.i l.stuck)) ≡ string_bytes l.fn.out ++ stuck_blocks (naming_view l.naming) (numbers_in l.numbers) 1 (stuck_of l.stuck)
