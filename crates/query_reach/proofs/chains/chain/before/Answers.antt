use Rattle.query_reach.specs.declared.filled.FullSlot.{FullSlot}
use Rattle.query_reach.specs.Private.Layers.{leads_to_layer}
use Rattle.query_reach.proofs.Filtered.{found_some, found_none}
use Rattle.query_reach.proofs.chains.chain.before.Goals as goal

pub returns-clause-some : goal.returns-clause-some
returns-clause-some g c = found_some (λ (s : FullSlot). leads_to_layer g.P.Profile.profile s c.args.slot.now) c.args.layer.now c.first_before.result c.first_before.ensures

pub returns-clause-none : goal.returns-clause-none
returns-clause-none g c = found_none (λ (s : FullSlot). leads_to_layer g.P.Profile.profile s c.args.slot.now) c.args.layer.now c.first_before.result c.first_before.ensures
