use Rattle.std.proofs.Common.{◌≡◌, true, take}
use Rattle.std.specs.List.{list_all}
use Rattle.query_parts.specs.Listed as spec
use Rattle.query_parts.proofs.listed.is_spared_by_all.Given as goal

abbrev pub invariant-loop-m : goal.invariant-loop-m
invariant-loop-m l = list_all (spec.spares l.part l.first l.last) (take l.m-index l.memory) ≡ true
