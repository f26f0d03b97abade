use Rattle.std.proofs.Common.{◌≡◌, ◌||◌, true, take}
use Rattle.std.specs.List.{list_all}
use Rattle.query_parts.specs.declared.listed.PartMemory.{PartMemory}
use Rattle.query_flow.specs.Listed as spec
use Rattle.query_flow.proofs.listed.each_holds.Given as goal

abbrev pub invariant-loop-m : goal.invariant-loop-m
invariant-loop-m g l = list_all (λ (m : PartMemory). spec.misses_range l.first l.last m || g.Q.Asks.holds l.question m.part) (take l.m-index l.memory) ≡ true
