use Rattle.std.proofs.Common.{◌≡◌, not, ◌==◌, ◌||◌, true, take}
use Rattle.std.specs.List.{list_all}
use Rattle.query_flow.specs.declared.listed.MayStand.{MayStand}
use Rattle.query_flow.specs.Listed as spec
use Rattle.query_flow.proofs.listed.are_ending.Given as goal

abbrev pub invariant-loop-s : goal.invariant-loop-s
invariant-loop-s g l = list_all (λ (s : MayStand). not (s.set == l.set) || spec.is_ending g.P.Profile.profile s.what) (take l.s-index l.all) ≡ true
