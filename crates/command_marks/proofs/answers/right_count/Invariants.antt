use Rattle.std.proofs.Common.{◌≡◌, take}
use Rattle.command_marks.specs.Answers.{right_count}
use Rattle.command_marks.proofs.answers.right_count.Given as goal

abbrev pub invariant-loop-mark : goal.invariant-loop-mark
invariant-loop-mark l = l.count ≡ right_count (take l.mark-index l.marks)
