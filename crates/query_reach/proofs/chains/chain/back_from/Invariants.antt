use Rattle.std.proofs.Common.{map}
use Rattle.query_reach.specs.Private.Layers.{IsBack}
use Rattle.query_reach.proofs.chains.chain.back_from.Given as goal

abbrev pub invariant-loop-k : goal.invariant-loop-k
invariant-loop-k g l = IsBack g.P.Profile.profile (map (λ v. v.items) l.layers) l.depth l.fn.end l.k l.head l.back.items
