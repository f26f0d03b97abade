use Rattle.std.proofs.Common.{◌≡◌, true, take}
use Rattle.setup_policy_file.specs.Values.{are_apart}
use Rattle.setup_policy_file.proofs.reader.no_doubles.Given as goal

abbrev pub invariant-loop-i : goal.invariant-loop-i
invariant-loop-i g l = are_apart g.T.PartialEq.eq (take l.i l.items) ≡ true
