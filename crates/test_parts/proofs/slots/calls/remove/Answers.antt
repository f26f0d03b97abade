use Rattle.std.proofs.Common.{sym, ◌∙◌, ap, subst}
use Rattle.cap_core.specs.Objects.{is_null}
use Rattle.kernel_forest.specs.Forest.{Forest}
use Rattle.kernel_forest.specs.Entries.{Entry}
use Rattle.slot_core.specs.Places.{address_of}
use Rattle.test_parts.specs.TestForests.{IsTestForest}
use Rattle.test_parts.proofs.KeptForests.{full_from}
use Rattle.test_parts.proofs.KeptForests.{kept_emptied}
use Rattle.test_parts.proofs.slots.calls.remove.Goals as goal

pub remove-requires : goal.remove-requires
remove-requires g c = record {
  full = full_from (address_of g.P.Profile.profile c.slot-at.result) (g.S.CapStore.forest c.args.store.now) (ap is_null (sym c.get.ensures.cap) ∙ sym c.is_null.ensures ∙ c.if-not-is_null.true);
}

pub returns-then-not-is_null-clause-forest : goal.returns-then-not-is_null-clause-forest
returns-then-not-is_null-clause-forest g c =
    let Q : Forest Entry → Type 0 = IsTestForest g.P.Profile.profile in
    subst Q (sym c.remove.ensures.forest) (kept_emptied g.P.Profile.profile (address_of g.P.Profile.profile c.slot-at.result) (g.S.CapStore.forest c.args.store.now) c.requires.forest)
