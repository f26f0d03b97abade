use Rattle.std.proofs.Common.{◌≡◌, true, sym, ◌∙◌, ap, subst}
use Rattle.cap_core.specs.Objects.{is_null}
use Rattle.kernel_forest.specs.Forest.{Forest}
use Rattle.kernel_forest.specs.Entries.{Entry, cap_at, is_full}
use Rattle.kernel_forest.specs.Derivation.{names_same}
use Rattle.slot_core.specs.Places.{address_of}
use Rattle.test_parts.specs.TestForests.{IsTestForest}
use Rattle.test_parts.proofs.KeptForests.{full_from}
use Rattle.test_parts.proofs.KeptForests.{kept_derived}
use Rattle.test_parts.proofs.slots.calls.derive.Goals as goal

pub derive-requires-clause-source : goal.derive-requires-clause-source
derive-requires-clause-source g c =
    full_from (address_of g.P.Profile.profile c.slot-from.result) (g.S.CapStore.forest c.args.store.now)
    (ap is_null (sym c.get-held.ensures.cap) ∙ sym c.is_null.ensures ∙ c.if-is_null.false)

pub derive-requires-clause-disjoint : goal.derive-requires-clause-disjoint
derive-requires-clause-disjoint g c =
    let p = g.P.Profile.profile in
    let f = g.S.CapStore.forest c.args.store.now in
    let a = address_of p c.slot-from.result in
    let full : is_full a f ≡ true = full_from a f (ap is_null (sym c.get-held.ensures.cap) ∙ sym c.is_null.ensures ∙ c.if-is_null.false) in
    let same : names_same (cap_at f a) c.rebadged-cap.result ≡ true = ap (λ k. names_same k c.rebadged-cap.result) (sym c.get-held.ensures.cap) ∙ c.rebadged-cap.ensures.same in
    (kept_derived p a (address_of p c.slot-to.result) c.rebadged-cap.result f c.requires.forest c.rebadged-cap.ensures.lawful (c.args.target, c.requires.target, c.slot-to.ensures) full
    (c.is_empty.ensures c.if-not-is_empty.false) same (c.may_derive.ensures c.if-may_derive.true)).disjoint

pub returns-then-may_derive-clause-forest : goal.returns-then-may_derive-clause-forest
returns-then-may_derive-clause-forest g c =
    let p = g.P.Profile.profile in
    let f = g.S.CapStore.forest c.args.store.now in
    let a = address_of p c.slot-from.result in
    let full : is_full a f ≡ true = full_from a f (ap is_null (sym c.get-held.ensures.cap) ∙ sym c.is_null.ensures ∙ c.if-is_null.false) in
    let same : names_same (cap_at f a) c.rebadged-cap.result ≡ true = ap (λ k. names_same k c.rebadged-cap.result) (sym c.get-held.ensures.cap) ∙ c.rebadged-cap.ensures.same in
    let Q : Forest Entry → Type 0 = IsTestForest p in
    subst Q (sym c.derive.ensures.forest)
    (kept_derived p a (address_of p c.slot-to.result) c.rebadged-cap.result f c.requires.forest c.rebadged-cap.ensures.lawful (c.args.target, c.requires.target, c.slot-to.ensures) full
    (c.is_empty.ensures c.if-not-is_empty.false) same (c.may_derive.ensures c.if-may_derive.true))
