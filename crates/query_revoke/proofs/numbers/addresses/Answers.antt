use Rattle.std.proofs.Common.{◌∙◌}
use Rattle.slot_core.specs.Places.{address_of}
use Rattle.query_revoke.proofs.Keys.{numbered_more}
use Rattle.query_revoke.proofs.numbers.addresses.Goals as goal

pub loop-place-preserved : goal.loop-place-preserved
loop-place-preserved g c =
    c.in_ok-push.ensures.items
    ∙ numbered_more (λ d. address_of g.P.Profile.profile d.slot) c.args.list.now c.loop-place.place c.index-list-place.result c.loop-place.keyed.items c.from.result c.loop-place-test.true c.loop-place.invariant
    (c.from.ensures ∙ c.address.ensures)
