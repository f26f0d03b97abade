use Rattle.std.proofs.Common.{map}
use Rattle.query_reach.specs.Private.Layers.{HasNoneSought}
use Rattle.query_reach.proofs.chains.chain.first_sought.Given as goal

abbrev pub invariant-loop-depth : goal.invariant-loop-depth
invariant-loop-depth g l = HasNoneSought g.P.Profile.profile l.target (map (λ v. v.items) l.layers) l.depth
