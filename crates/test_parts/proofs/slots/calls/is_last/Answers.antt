use Rattle.std.proofs.Common.{sym, ◌∙◌, ap}
use Rattle.cap_core.specs.Objects.{is_null}
use Rattle.slot_core.specs.Places.{address_of}
use Rattle.test_parts.proofs.KeptForests.{full_from}
use Rattle.test_parts.proofs.slots.calls.is_last.Goals as goal

pub is_last-requires : goal.is_last-requires
is_last-requires g c = record {
  full = full_from (address_of g.P.Profile.profile c.args.slot) (g.S.CapStore.forest c.args.store.now) (ap is_null (sym c.get.ensures.cap) ∙ sym c.is_null.ensures ∙ c.if-not-is_null.true);
}
