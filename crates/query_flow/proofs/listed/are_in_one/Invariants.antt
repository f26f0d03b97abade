use Rattle.std.proofs.Common.{◌≡◌, false, take}
use Rattle.std.specs.List.{list_any}
use Rattle.query_flow.specs.Listed as spec
use Rattle.query_flow.proofs.listed.are_in_one.Given as goal

abbrev pub invariant-loop-m : goal.invariant-loop-m
invariant-loop-m l = list_any (spec.has_range l.first l.last) (take l.m-index l.memory) ≡ false
