-- The proof of `number_uses`: the loop's invariant.
use Rattle.std.proofs.Common.{◌≡◌, ◌++◌, map, take, drop}
use Rattle.query_parts.specs.Private.Search.{use_in}
use Rattle.query_parts.specs.Private.Arranging.{number_of}
use Rattle.query_parts.proofs.arranged.number_uses.Given as goal

abbrev pub invariant-loop-allowed : goal.invariant-loop-allowed
invariant-loop-allowed l = l.uses ≡ map (use_in (number_of l.labels)) (take l.allowed-index l.initial.uses) ++ drop l.allowed-index l.initial.uses
