use Rattle.command_explore.specs.Numbers.{numbers_in}
use Rattle.command_explore.proofs.Taken.{IsTaken}
use Rattle.command_explore.proofs.report.numbers.call_numbers.Given as goal

abbrev pub invariant-loop-i : goal.invariant-loop-i
invariant-loop-i l = IsTaken (numbers_in l.numbers) l.clients l.made.items l.own.items l.i
