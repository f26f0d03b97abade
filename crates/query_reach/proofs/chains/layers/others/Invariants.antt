use Rattle.std.proofs.Common.{◌≡◌, take}
use Rattle.query_reach.specs.Private.Layers.{others_of}
use Rattle.query_reach.proofs.chains.layers.others.Given as goal

abbrev pub invariant-loop-slot : goal.invariant-loop-slot
invariant-loop-slot g l = l.others.items ≡ others_of g.P.Profile.profile l.layer (take l.slot-index l.rest)
