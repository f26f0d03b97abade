-- The proof of `take_slots`: the goals that a search leaves open.
use Rattle.std.proofs.Common.{arith}
use Rattle.query_parts.specs.Private.Search.{entries_of}
use Rattle.query_parts.proofs.Turns.{taken_none, slots_more}
use Rattle.query_parts.proofs.least.take_slots.Goals as goal

pub loop-derivation-init : goal.loop-derivation-init
loop-derivation-init g c =
    let p = g.P.Profile.profile in
    taken_none p (entries_of p c.args.derivations.now) c.args.stretch c.args.parts.now.memory.items c.args.parts.now.uses.items

pub loop-derivation-preserved : goal.loop-derivation-preserved
loop-derivation-preserved g c =
    slots_more g.P.Profile.profile c.args.derivations.now c.args.stretch c.loop-derivation.derivation-index c.derivation-item.result _ _ _ _ _ _
    (omega arith) c.derivation-item.is c.loop-derivation.invariant c.in_ok-take_slot.ensures
