use Rattle.std.proofs.Common.{◌≡◌, false, take}
use Rattle.std.specs.List.{list_any}
use Rattle.query_reach.specs.declared.reached.Reached.{Reached}
use Rattle.command_how_witness.specs.Private.{is_emptied}
use Rattle.command_how_witness.proofs.shown.is_one_emptied.Given as goal

abbrev pub invariant-loop-one : goal.invariant-loop-one
invariant-loop-one g l = list_any (λ (r : Reached). is_emptied l.before.derivations l.after.derivations r.slot) (take l.one-index l.list) ≡ false
