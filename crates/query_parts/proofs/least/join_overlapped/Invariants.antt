-- The proof of `join_overlapped`: the loop's invariant, and how many stretches are of other parts.
use Rattle.std.proofs.Common.{◌==◌}
use Rattle.std.specs.Prelude.{not}
use Rattle.std.specs.List.{count_by}
use Rattle.query_parts.specs.declared.listed.PartMemory.{PartMemory}
use Rattle.query_parts.specs.Private.Search.{AreJoining}
use Rattle.query_parts.proofs.least.join_overlapped.Given as goal

abbrev pub invariant-loop-other : goal.invariant-loop-other
invariant-loop-other l =
    AreJoining l.part l.first l.last l.initial.parts.memory.items l.initial.parts.uses.items l.parts.memory.items l.parts.uses.items

abbrev pub decreases-loop-other : goal.decreases-loop-other
decreases-loop-other l = count_by (λ (m : PartMemory). not (m.part == l.part)) l.parts.memory.items
