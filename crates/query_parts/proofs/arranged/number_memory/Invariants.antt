-- The proof of `number_memory`: the loop's invariant.
use Rattle.std.proofs.Common.{◌≡◌, ◌++◌, map, take, drop}
use Rattle.query_parts.specs.Private.Search.{memory_in}
use Rattle.query_parts.specs.Private.Arranging.{number_of}
use Rattle.query_parts.proofs.arranged.number_memory.Given as goal

abbrev pub invariant-loop-stretch : goal.invariant-loop-stretch
invariant-loop-stretch l = l.memory ≡ map (memory_in (number_of l.labels)) (take l.stretch-index l.initial.memory) ++ drop l.stretch-index l.initial.memory
