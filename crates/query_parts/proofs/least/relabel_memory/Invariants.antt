-- The proof of `relabel_memory`: the loop's invariant.
use Rattle.std.proofs.Common.{◌≡◌, ◌++◌, map, take, drop}
use Rattle.query_parts.specs.Private.Search.{memory_in, renamed}
use Rattle.query_parts.proofs.least.relabel_memory.Given as goal

abbrev pub invariant-loop-stretch : goal.invariant-loop-stretch
invariant-loop-stretch l = l.memory ≡ map (memory_in (renamed l.from l.to)) (take l.stretch-index l.initial.memory) ++ drop l.stretch-index l.initial.memory
