use Rattle.std.proofs.Common.{◌≡◌, not, ◌&&◌, ◌||◌, true, take}
use Rattle.std.specs.List.{list_all}
use Rattle.query_flow.specs.declared.listed.MayStand.{MayStand}
use Rattle.query_flow.specs.Listed as spec
use Rattle.query_flow.proofs.listed.roots_stand.Given as goal

abbrev pub invariant-loop-s : goal.invariant-loop-s
invariant-loop-s l = list_all (λ (s : MayStand). not (spec.is_among l.caller.nodes.items s.set && spec.may_have_slots s.what) || spec.has_over l.all l.set (spec.opened s.what)) (take l.s-index l.all) ≡ true
