use Rattle.std.proofs.Common.{sym, ◌∙◌, ap}
use Rattle.cap_core.specs.Objects.{is_null}
use Rattle.slot_core.specs.Places.{address_of}
use Rattle.test_parts.proofs.KeptForests.{empty_slot}
use Rattle.test_parts.proofs.slots.calls.is_empty.Goals as goal

pub returns : goal.returns
returns g c e = empty_slot g.P.Profile.profile (address_of g.P.Profile.profile c.args.slot) (g.S.CapStore.forest c.args.store.now) c.requires.forest (ap is_null (sym c.get.ensures.cap) ∙ sym c.is_null.ensures ∙ e)
