-- The proof of `needed_ones`: the loop's invariant.
use Rattle.std.proofs.Common.{◌≡◌, take}
use Rattle.std.specs.List.{filter}
use Rattle.query_parts.specs.Order.{is_needed}
use Rattle.query_parts.proofs.arranged.needed_ones.Given as goal

abbrev pub invariant-loop-allowed : goal.invariant-loop-allowed
invariant-loop-allowed g l = l.kept.items ≡ filter (is_needed g.P.Profile.profile l.memory l.uses) (take l.allowed-index l.uses)
