-- The proof of `join_all`: the loop's invariant.
use Rattle.std.proofs.Common.{◌≡◌, ◌++◌, drop}
use Rattle.query_parts.specs.Private.Arranging.{joined_from}
use Rattle.query_parts.proofs.arranged.join_all.Given as goal

abbrev pub invariant-loop-next : goal.invariant-loop-next
invariant-loop-next l = l.joined.items ++ joined_from l.last (drop l.next-index l.others) ≡ joined_from l.fn.start l.others
