-- The marks of the calls so far.
use Rattle.std.proofs.Common.{◌≡◌, ◌++◌, drop}
use Rattle.command_marks.specs.Against.{marks_by}
use Rattle.command_marks.proofs.against.marks_by.Given as goal

abbrev pub invariant-loop-i : goal.invariant-loop-i
invariant-loop-i l =
    l.marks.items ++ marks_by (drop l.i l.exercise.calls) (drop l.i l.setup.calls) (drop l.i l.replies) ≡ marks_by l.exercise.calls l.setup.calls l.replies
