use Rattle.std.proofs.Common.{◌≡◌, ◌==◌, ◌&&◌, not, drop, option_map}
use Rattle.std.specs.Prelude.{find}
use Rattle.query_parts.specs.declared.listed.PartMemory.{PartMemory}
use Rattle.query_parts.specs.Private.Search.{overlaps}
use Rattle.query_parts.proofs.least.overlapped.Given as goal

abbrev pub invariant-loop-m : goal.invariant-loop-m
invariant-loop-m l =
    option_map (λ (m : PartMemory). m.part) (find (λ (m : PartMemory). not (m.part == l.part) && overlaps l.first l.last m) (drop l.m-index l.memory))
    ≡ option_map (λ (m : PartMemory). m.part) (find (λ (m : PartMemory). not (m.part == l.part) && overlaps l.first l.last m) l.memory)
