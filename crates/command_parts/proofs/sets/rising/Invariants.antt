use Rattle.std.proofs.Common.{◌≡◌, take}
use Rattle.setup_report.specs.State.{rising}
use Rattle.command_parts.proofs.sets.rising.Given as goal

abbrev pub invariant-loop-number : goal.invariant-loop-number
invariant-loop-number l = l.set.keys ≡ rising (take l.number-index l.numbers)
