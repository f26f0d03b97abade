use Rattle.std.proofs.Common.{◌≡◌, not, ◌==◌, ◌||◌, true, take}
use Rattle.std.specs.List.{list_all}
use Rattle.query_flow.specs.declared.listed.MayStand.{MayStand}
use Rattle.query_flow.specs.Listed as spec
use Rattle.query_flow.proofs.listed.begins.Given as goal

abbrev pub invariant-loop-s : goal.invariant-loop-s
invariant-loop-s g l = list_all (λ (s : MayStand). not (s.set == l.caller.set) || spec.slots_lie g.P.Profile.profile l.memory l.caller.names.items s.what) (take l.s-index l.all) ≡ true
