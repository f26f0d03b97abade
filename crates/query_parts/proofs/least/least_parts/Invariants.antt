-- The proof of `least_parts`: the loop's invariant; and how many slots lie outside, and how many stretches are left.
use Rattle.std.proofs.Common.{◌+◌, ◌-◌, length}
use Rattle.std.specs.List.{count_by}
use Rattle.query_parts.specs.Private.Search.{AreFoundSoFar, entries_of, is_outside}
use Rattle.query_parts.proofs.least.least_parts.Given as goal

abbrev pub invariant-loop-place : goal.invariant-loop-place
invariant-loop-place g l =
    let p = g.P.Profile.profile in
    AreFoundSoFar p (entries_of p l.derivations) l.threads l.parts.memory.items l.parts.uses.items l.place

abbrev pub decreases-loop-place : goal.decreases-loop-place
decreases-loop-place g l =
    let p = g.P.Profile.profile in
    count_by (is_outside p l.parts.memory.items l.parts.uses.items) (entries_of p l.derivations) + (length l.parts.memory.items - l.place)
