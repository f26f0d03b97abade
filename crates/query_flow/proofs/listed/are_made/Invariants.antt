use Rattle.std.proofs.Common.{◌≡◌, not, ◌||◌, true, take}
use Rattle.std.specs.List.{list_all}
use Rattle.query_flow.specs.declared.listed.MayStand.{MayStand}
use Rattle.query_flow.specs.Listed as spec
use Rattle.query_flow.proofs.listed.are_made.Given as goal

abbrev pub invariant-loop-s : goal.invariant-loop-s
invariant-loop-s l = list_all (λ (s : MayStand). not (spec.is_among l.caller.names.items s.set) || spec.makes_what_may_stand l.all l.caller.fills.items (spec.made_of s.what)) (take l.s-index l.all) ≡ true
