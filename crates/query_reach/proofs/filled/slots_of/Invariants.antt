use Rattle.std.proofs.Common.{◌≡◌, map, take}
use Rattle.query_reach.specs.Private.Rows.{full_slot}
use Rattle.query_reach.proofs.filled.slots_of.Given as goal

abbrev pub invariant-loop-derivation : goal.invariant-loop-derivation
invariant-loop-derivation g l = l.filled.items ≡ map (full_slot g.P.Profile.profile) (take l.derivation-index l.derivations)
