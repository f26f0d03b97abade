use Rattle.std.proofs.Common.{◌≡◌, ◌++◌, ◌+◌, drop}
use Rattle.command_check.specs.Notes.{unexpected_from}
use Rattle.command_check.proofs.notes.unexpected_refusals.Given as goal

abbrev pub invariant-loop-i : goal.invariant-loop-i
invariant-loop-i l = l.numbers.items ++ unexpected_from (l.i + 1) (drop l.i l.setup.calls) (drop l.i l.replies) ≡ unexpected_from 1 l.setup.calls l.replies
