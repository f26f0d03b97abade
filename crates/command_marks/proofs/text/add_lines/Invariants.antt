-- The lines of the calls so far.
use Rattle.std.proofs.Common.{◌≡◌, ◌++◌, ◌+◌, drop, string_bytes}
use Rattle.command_marks.specs.Text.{mark_lines}
use Rattle.command_marks.proofs.text.add_lines.Given as goal

abbrev pub invariant-loop-i : goal.invariant-loop-i
invariant-loop-i l =
    string_bytes l.out ++ mark_lines (l.i + 1) (drop l.i l.setup.calls) (drop l.i l.marks) ≡ string_bytes l.initial.out ++ mark_lines 1 l.setup.calls l.marks
