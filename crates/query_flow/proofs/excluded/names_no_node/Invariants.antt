use Rattle.std.proofs.Common.{◌≡◌, not, ◌&&◌, true, take}
use Rattle.std.specs.List.{list_all}
use Rattle.query_flow.specs.declared.listed.MayStand.{MayStand}
use Rattle.query_flow.specs.Listed.{is_among, may_have_slots}
use Rattle.query_flow.proofs.excluded.names_no_node.Given as goal

abbrev pub invariant-loop-s : goal.invariant-loop-s
invariant-loop-s l = list_all (λ (s : MayStand). not (is_among l.nodes s.set && may_have_slots s.what)) (take l.s-index l.all) ≡ true
