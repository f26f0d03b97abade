-- The calls so far are the same.
use Rattle.std.proofs.Common.{◌≡◌, ◌+◌, drop}
use Rattle.command_marks.specs.Differences.{same_front}
use Rattle.command_marks.proofs.differences.same_front.Given as goal

abbrev pub invariant-loop-i : goal.invariant-loop-i
invariant-loop-i l = l.i + same_front (drop l.i l.a) (drop l.i l.b) ≡ same_front l.a l.b
