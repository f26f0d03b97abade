-- The marks of the calls so far.
use Rattle.std.proofs.Common.{◌≡◌, ◌++◌, drop}
use Rattle.command_marks.specs.Marks.{marks_of}
use Rattle.command_marks.proofs.marking.marks.Given as goal

abbrev pub invariant-loop-i : goal.invariant-loop-i
invariant-loop-i l = l.marks.items ++ marks_of (drop l.i l.setup.calls) (drop l.i l.replies) ≡ marks_of l.setup.calls l.replies
