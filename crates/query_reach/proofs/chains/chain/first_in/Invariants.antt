use Rattle.std.proofs.Common.{◌≡◌, drop}
use Rattle.std.specs.Prelude.{find}
use Rattle.query_reach.specs.Private.Layers.{is_sought_at}
use Rattle.query_reach.proofs.chains.chain.first_in.Given as goal

abbrev pub invariant-loop-slot : goal.invariant-loop-slot
invariant-loop-slot g l =
    find (is_sought_at g.P.Profile.profile l.target) (drop l.slot-index l.layer) ≡ find (is_sought_at g.P.Profile.profile l.target) l.layer
