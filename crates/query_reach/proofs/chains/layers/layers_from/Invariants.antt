use Rattle.std.proofs.Common.{◌+◌, List, ◌++◌, length, map}
use Rattle.query_reach.specs.declared.filled.FullSlot.{FullSlot}
use Rattle.query_reach.specs.Private.Layers.{IsLaid}
use Rattle.query_reach.proofs.chains.layers.layers_from.Given as goal

-- what is laid from here on, behind the layers so far, is laid from the first layer on
abbrev pub invariant-loop-alloc : goal.invariant-loop-alloc
invariant-loop-alloc g l = (more : List (List FullSlot)) → IsLaid g.P.Profile.profile l.layer.items l.rest.items more →
    IsLaid g.P.Profile.profile l.fn.first.items l.fn.elsewhere.items (map (λ v. v.items) l.layers.items ++ more)

abbrev pub decreases-loop-alloc : goal.decreases-loop-alloc
decreases-loop-alloc g l = length l.layer.items + length l.rest.items
