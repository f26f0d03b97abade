use Rattle.std.proofs.Common.{◌≡◌, false, take}
use Rattle.std.specs.List.{list_any}
use Rattle.query_parts.specs.Listed as spec
use Rattle.query_parts.proofs.listed.is_in_one.Given as goal

abbrev pub invariant-loop-m : goal.invariant-loop-m
invariant-loop-m l = list_any (spec.has_all l.part l.first l.last) (take l.m-index l.memory) ≡ false
