use Rattle.std.proofs.Common.{◌≡◌, true, false, sym, ◌∙◌, ap, subst}
use Rattle.cap_core.specs.declared.capability.Cap.{Cap}
use Rattle.cap_core.specs.Objects.{IsLawful, is_null}
use Rattle.kernel_forest.specs.Forest.{Forest}
use Rattle.kernel_forest.specs.Entries.{Entry, cap_at}
use Rattle.kernel_forest.specs.Derivation.{names_same}
use Rattle.slot_core.specs.Places.{address_of}
use Rattle.test_parts.specs.TestForests.{IsTestForest}
use Rattle.test_parts.proofs.KeptForests.{full_from}
use Rattle.test_parts.proofs.KeptForests.{kept_moved, lawful_at, names_same-self}
use Rattle.test_parts.proofs.slots.calls.relocate.Goals as goal

pub relocate-requires-clause-source : goal.relocate-requires-clause-source
relocate-requires-clause-source g c =
    full_from (address_of g.P.Profile.profile c.slot-from.result) (g.S.CapStore.forest c.args.store.now)
    (ap is_null (sym c.get-cap.ensures.cap) ∙ sym c.is_null.ensures ∙ c.if-is_null.false)

pub relocate-requires-clause-disjoint : goal.relocate-requires-clause-disjoint
relocate-requires-clause-disjoint g c =
    let p = g.P.Profile.profile in
    let f = g.S.CapStore.forest c.args.store.now in
    let a = address_of p c.slot-from.result in
    let n : is_null (cap_at f a) ≡ false = ap is_null (sym c.get-cap.ensures.cap) ∙ sym c.is_null.ensures ∙ c.if-is_null.false in
    let W : Cap → Type 0 = λ k. IsLawful p 12 k × (names_same (cap_at f a) k ≡ true) in
    let w : IsLawful p 12 c.get-cap.result × (names_same (cap_at f a) c.get-cap.result ≡ true) = subst W (sym c.get-cap.ensures.cap) (lawful_at p a f c.requires.forest n, names_same-self (cap_at f a) n) in
    (kept_moved p a (address_of p c.slot-to.result) c.get-cap.result f c.requires.forest w.0 (c.args.target, c.requires.target, c.slot-to.ensures) (c.is_empty.ensures c.if-not-is_empty.false) w.1).disjoint

pub returns-clause-forest : goal.returns-clause-forest
returns-clause-forest g c =
    let p = g.P.Profile.profile in
    let f = g.S.CapStore.forest c.args.store.now in
    let a = address_of p c.slot-from.result in
    let n : is_null (cap_at f a) ≡ false = ap is_null (sym c.get-cap.ensures.cap) ∙ sym c.is_null.ensures ∙ c.if-is_null.false in
    let W : Cap → Type 0 = λ k. IsLawful p 12 k × (names_same (cap_at f a) k ≡ true) in
    let w : IsLawful p 12 c.get-cap.result × (names_same (cap_at f a) c.get-cap.result ≡ true) = subst W (sym c.get-cap.ensures.cap) (lawful_at p a f c.requires.forest n, names_same-self (cap_at f a) n) in
    let Q : Forest Entry → Type 0 = IsTestForest p in
    subst Q (sym c.relocate.ensures.forest) (kept_moved p a (address_of p c.slot-to.result) c.get-cap.result f c.requires.forest w.0 (c.args.target, c.requires.target, c.slot-to.ensures) (c.is_empty.ensures c.if-not-is_empty.false) w.1)
