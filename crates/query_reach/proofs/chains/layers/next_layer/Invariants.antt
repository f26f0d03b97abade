use Rattle.std.proofs.Common.{◌≡◌, take}
use Rattle.query_reach.specs.Private.Layers.{next_layer}
use Rattle.query_reach.proofs.chains.layers.next_layer.Given as goal

abbrev pub invariant-loop-slot : goal.invariant-loop-slot
invariant-loop-slot g l = l.next.items ≡ next_layer g.P.Profile.profile l.layer (take l.slot-index l.rest)
