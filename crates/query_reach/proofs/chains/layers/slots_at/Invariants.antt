use Rattle.std.proofs.Common.{◌≡◌, ◌==◌, filter, take}
use Rattle.query_reach.specs.declared.filled.FullSlot.{FullSlot}
use Rattle.query_reach.proofs.chains.layers.slots_at.Given as goal

abbrev pub invariant-loop-slot : goal.invariant-loop-slot
invariant-loop-slot l = l.slots.items ≡ filter (λ (s : FullSlot). s.address == l.root) (take l.slot-index l.filled)
