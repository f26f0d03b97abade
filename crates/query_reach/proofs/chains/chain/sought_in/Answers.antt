use Rattle.query_reach.specs.declared.filled.FullSlot.{FullSlot}
use Rattle.query_reach.specs.Private.Layers.{is_sought_at}
use Rattle.query_reach.proofs.Filtered.{found_some, found_none}
use Rattle.query_reach.proofs.chains.chain.sought_in.Goals as goal

pub returns-clause-some : goal.returns-clause-some
returns-clause-some g c = found_some (λ (s : FullSlot). is_sought_at g.P.Profile.profile c.args.target.now s) c.args.layer.now c.first_in.result c.first_in.ensures

pub returns-clause-none : goal.returns-clause-none
returns-clause-none g c = found_none (λ (s : FullSlot). is_sought_at g.P.Profile.profile c.args.target.now s) c.args.layer.now c.first_in.result c.first_in.ensures
