-- The proof of `least_parts`: the goals that a search leaves open.
use Rattle.std.proofs.Common.{arith}
use Rattle.query_parts.specs.Private.Search.{entries_of}
use Rattle.query_parts.proofs.Turns.{found_first, found_more, turn_less, found_all}
use Rattle.query_parts.proofs.least.least_parts.Goals as goal

pub loop-place-init : goal.loop-place-init
loop-place-init g c =
    let p = g.P.Profile.profile in
    found_first p (entries_of p c.args.derivations.now) c.args.threads.now _ _ c.in_ok-parts.ensures

pub loop-place-smaller : goal.loop-place-smaller
loop-place-smaller g c =
    let p = g.P.Profile.profile in
    turn_less p (entries_of p c.args.derivations.now) c.args.threads.now c.loop-place.parts.memory.items c.loop-place.parts.uses.items
    c.loop-place.place c.index-stretch.result.now (omega arith) c.index-stretch.ensures c.take_slots.new.parts.memory.items c.take_slots.new.parts.uses.items
    c.loop-place.invariant c.in_ok-take_slots.ensures

pub loop-place-preserved : goal.loop-place-preserved
loop-place-preserved g c =
    let p = g.P.Profile.profile in
    found_more p (entries_of p c.args.derivations.now) c.args.threads.now c.loop-place.parts.memory.items c.loop-place.parts.uses.items
    c.loop-place.place c.index-stretch.result.now (omega arith) c.index-stretch.ensures c.take_slots.new.parts.memory.items c.take_slots.new.parts.uses.items
    c.loop-place.invariant c.in_ok-take_slots.ensures

pub returns : goal.returns
returns g c =
    let p = g.P.Profile.profile in
    found_all p (entries_of p c.args.derivations.now) c.args.threads.now _ _ c.loop-place.place (omega arith) c.loop-place.invariant
