use Rattle.std.proofs.Common.{◌≡◌, not, ◌||◌, true, take}
use Rattle.std.specs.List.{list_all}
use Rattle.query_flow.specs.declared.listed.MayStand.{MayStand}
use Rattle.query_flow.specs.Listed as spec
use Rattle.query_flow.proofs.listed.lead_to.Given as goal

abbrev pub invariant-loop-s : goal.invariant-loop-s
invariant-loop-s g l = list_all (λ (s : MayStand). not (spec.is_among l.from s.set) || spec.slots_lie g.P.Profile.profile l.memory l.to s.what) (take l.s-index l.all) ≡ true
