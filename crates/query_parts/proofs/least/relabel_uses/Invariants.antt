-- The proof of `relabel_uses`: the loop's invariant.
use Rattle.std.proofs.Common.{◌≡◌, ◌++◌, map, take, drop}
use Rattle.query_parts.specs.Private.Search.{use_in, renamed}
use Rattle.query_parts.proofs.least.relabel_uses.Given as goal

abbrev pub invariant-loop-allowed : goal.invariant-loop-allowed
invariant-loop-allowed l = l.uses ≡ map (use_in (renamed l.from l.to)) (take l.allowed-index l.initial.uses) ++ drop l.allowed-index l.initial.uses
