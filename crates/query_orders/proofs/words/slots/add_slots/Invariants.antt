use Rattle.std.proofs.Common.{◌≡◌, ◌++◌, length, map}
use Rattle.slot_core.specs.Calls.{derivation_view}
use Rattle.query_orders.specs.Words.{listed, slot_words}
use Rattle.query_orders.proofs.words.slots.add_slots.Given as goal

abbrev pub invariant-loop-derivation : goal.invariant-loop-derivation
invariant-loop-derivation g l =
    l.words.items ++ listed (slot_words l.kernel) (map (derivation_view g.P.Profile.profile) l.rest) ≡ l.fn.words.items ++ listed (slot_words l.kernel) (map (derivation_view g.P.Profile.profile) l.list)

abbrev pub decreases-loop-derivation : goal.decreases-loop-derivation
decreases-loop-derivation g l = length l.rest
