-- The proof of `take_slots`: the loop's invariant.
use Rattle.std.proofs.Common.{take}
use Rattle.query_parts.specs.Private.Search.{AreTaken, entries_of}
use Rattle.query_parts.proofs.least.take_slots.Given as goal

abbrev pub invariant-loop-derivation : goal.invariant-loop-derivation
invariant-loop-derivation g l =
    let p = g.P.Profile.profile in
    AreTaken p (entries_of p l.derivations) l.stretch (entries_of p (take l.derivation-index l.derivations))
    l.initial.parts.memory.items l.initial.parts.uses.items l.parts.memory.items l.parts.uses.items
