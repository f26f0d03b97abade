use Rattle.std.proofs.Common.{◌≡◌, ◌++◌}
use Rattle.command_policy_text.proofs.text.add_all.Given as goal

abbrev pub invariant-loop-line : goal.invariant-loop-line
invariant-loop-line l = l.lines.items ≡ l.initial.lines.items ++ l.yielded
