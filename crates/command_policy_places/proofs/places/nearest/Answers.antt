use Rattle.std.proofs.Common.{◌≡◌, length, Some, option_copied, sym, ap, ◌∙◌, arith}
use Rattle.command_policy_places.specs.Places.{slot_above}
use Rattle.command_policy_places.proofs.Ways.{one_up}
use Rattle.command_policy_places.proofs.places.nearest.Goals as goal

pub loop-preserved : goal.loop-preserved
loop-preserved c =
    let slots = c.args.slots.now in
    let found : slot_above slots c.loop.above ≡ Some c.in_ok-slot.slot.now = sym c.slot_above.ensures ∙ ap option_copied c.in_ok-slot.was in
    one_up slots c.args.part (length slots) c.loop.counter c.loop.above c.in_ok-slot.slot.now (omega (arith, c.loop-test.true)) found
    (sym c.is_of.ensures ∙ c.if-is_of.false)
    ∙ c.loop.invariant
