use Rattle.std.proofs.Common.{◌≡◌, false, take}
use Rattle.query_reach.specs.Private.Layers.{is_next}
use Rattle.query_reach.proofs.chains.layers.is_behind.Given as goal

abbrev pub invariant-loop-from : goal.invariant-loop-from
invariant-loop-from g l = is_next g.P.Profile.profile (take l.from-index l.layer) l.slot ≡ false
