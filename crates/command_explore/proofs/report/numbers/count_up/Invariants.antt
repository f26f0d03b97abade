use Rattle.std.proofs.Common.{◌≡◌, ◌+◌, drop}
use Rattle.command_explore.specs.Numbers.{count_up}
use Rattle.command_explore.proofs.report.numbers.count_up.Given as goal

abbrev pub invariant-loop-i : goal.invariant-loop-i
invariant-loop-i l = count_up (l.i + 1) (drop l.i l.numbers) ≡ count_up 1 l.numbers
