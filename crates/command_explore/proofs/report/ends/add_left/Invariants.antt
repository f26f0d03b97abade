use Rattle.std.proofs.Common.{◌≡◌, ◌++◌, drop, string_bytes}
use Rattle.std.specs.List.{flat_map}
use Rattle.setup_report.specs.Naming.{naming_view}
use Rattle.command_explore.specs.Numbers.{numbers_in}
use Rattle.command_explore.specs.Text.{left_line}
use Rattle.command_explore.proofs.report.ends.add_left.Given as goal

abbrev pub invariant-loop-call : goal.invariant-loop-call
invariant-loop-call l = string_bytes l.out ++ flat_map (left_line (naming_view l.naming) (numbers_in l.numbers)) (drop l.call-index l.left) ≡ string_bytes l.fn.out ++ flat_map (left_line (naming_view l.naming) (numbers_in l.numbers)) l.left
