use Rattle.std.proofs.Common.{◌≡◌}
use Rattle.setup_policy_file.proofs.faults.Faults.tell.Given as goal

abbrev pub invariant-loop-note : goal.invariant-loop-note
invariant-loop-note l = l.place ≡ l.note-index
