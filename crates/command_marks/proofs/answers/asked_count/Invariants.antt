use Rattle.std.proofs.Common.{◌≡◌, take}
use Rattle.command_marks.specs.Answers.{asked_count}
use Rattle.command_marks.proofs.answers.asked_count.Given as goal

abbrev pub invariant-loop-mark : goal.invariant-loop-mark
invariant-loop-mark l = l.count ≡ asked_count (take l.mark-index l.marks)
