-- The numbers of the calls so far.
use Rattle.std.proofs.Common.{◌≡◌, ◌++◌, ◌+◌, drop}
use Rattle.command_marks.specs.Marks.{numbers_of}
use Rattle.command_marks.proofs.mark.numbers_of.Given as goal

abbrev pub invariant-loop-i : goal.invariant-loop-i
invariant-loop-i l = l.numbers.items ++ numbers_of l.wanted (l.i + 1) (drop l.i l.marks) ≡ numbers_of l.wanted 1 l.marks
