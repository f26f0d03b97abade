use Rattle.std.proofs.Common.{◌≡◌, false, take}
use Rattle.std.specs.List.{list_any}
use Rattle.query_flow.specs.Listed as spec
use Rattle.query_flow.proofs.listed.has_one_for.Given as goal

abbrev pub invariant-loop-s : goal.invariant-loop-s
invariant-loop-s g l = list_any (spec.may_in g.P.Profile.profile l.set l.cap) (take l.s-index l.all) ≡ false
