use Rattle.std.proofs.Common.{◌≡◌, drop}
use Rattle.std.specs.Prelude.{find}
use Rattle.query_reach.specs.declared.filled.FullSlot.{FullSlot}
use Rattle.query_reach.specs.Private.Layers.{leads_to_layer}
use Rattle.query_reach.proofs.chains.chain.first_before.Given as goal

abbrev pub invariant-loop-from : goal.invariant-loop-from
invariant-loop-from g l =
    find (λ (s : FullSlot). leads_to_layer g.P.Profile.profile s l.slot) (drop l.from-index l.layer)
    ≡ find (λ (s : FullSlot). leads_to_layer g.P.Profile.profile s l.slot) l.layer
