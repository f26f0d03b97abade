use Rattle.std.proofs.Common.{◌≡◌, ◌*◌, true, sym, ◌∙◌, ap, subst}
use Rattle.cap_core.specs.Numbers.{slot_size}
use Rattle.cap_core.specs.Objects.{is_untyped, contains}
use Rattle.kernel_forest.specs.Forest.{Forest}
use Rattle.kernel_forest.specs.Entries.{Entry, cap_at}
use Rattle.slot_core.specs.Places.{address_of}
use Rattle.test_parts.specs.TestForests.{IsTestForest}
use Rattle.test_parts.proofs.KeptForests.{full_from}
use Rattle.test_parts.proofs.KeptForests.{kept_retyped, unnamed_in_room, leaves_of, untyped_full}
use Rattle.test_parts.proofs.slots.calls.put_new.Goals as goal

pub put_new-requires-clause-unnamed : goal.put_new-requires-clause-unnamed
put_new-requires-clause-unnamed g c =
    let p = g.P.Profile.profile in
    let f = g.S.CapStore.forest c.args.store.now in
    let a = address_of p c.slot-from.result in
    let r : c.get-region.result ≡ cap_at f a = c.get-region.ensures.cap in
    let t : is_untyped (cap_at f a) ≡ true = ap is_untyped (sym r) ∙ c.in-Some.ensures.untyped in
    let i : contains p (cap_at f a) c.in-Some.cap ≡ true = ap (λ k. contains p k c.in-Some.cap) (sym r) ∙ c.in-Some.ensures.contains in
    let room = leaves_of p a (c.args.source * slot_size p) c.get-region.result c.in-Some.cap f c.slot-from.ensures r (c.has_room.ensures c.if-not-has_room.false) in
    unnamed_in_room p a c.in-Some.cap f c.requires.forest t i room

pub put_new-requires-clause-disjoint : goal.put_new-requires-clause-disjoint
put_new-requires-clause-disjoint g c =
    let p = g.P.Profile.profile in
    let f = g.S.CapStore.forest c.args.store.now in
    let a = address_of p c.slot-from.result in
    let r : c.get-region.result ≡ cap_at f a = c.get-region.ensures.cap in
    let t : is_untyped (cap_at f a) ≡ true = ap is_untyped (sym r) ∙ c.in-Some.ensures.untyped in
    let i : contains p (cap_at f a) c.in-Some.cap ≡ true = ap (λ k. contains p k c.in-Some.cap) (sym r) ∙ c.in-Some.ensures.contains in
    let room = leaves_of p a (c.args.source * slot_size p) c.get-region.result c.in-Some.cap f c.slot-from.ensures r (c.has_room.ensures c.if-not-has_room.false) in
    (kept_retyped p a (address_of p c.slot-to.result) c.in-Some.cap f c.requires.forest c.in-Some.ensures.lawful (c.args.target, c.requires.target, c.slot-to.ensures)
    (full_from a f (untyped_full (cap_at f a) t)) (c.is_empty.ensures c.if-not-is_empty.false) t i room).disjoint

pub set_free-requires-clause-forest : goal.set_free-requires-clause-forest
set_free-requires-clause-forest g c =
    let p = g.P.Profile.profile in
    let f = g.S.CapStore.forest c.args.store.now in
    let a = address_of p c.slot-from.result in
    let r : c.get-region.result ≡ cap_at f a = c.get-region.ensures.cap in
    let t : is_untyped (cap_at f a) ≡ true = ap is_untyped (sym r) ∙ c.in-Some.ensures.untyped in
    let i : contains p (cap_at f a) c.in-Some.cap ≡ true = ap (λ k. contains p k c.in-Some.cap) (sym r) ∙ c.in-Some.ensures.contains in
    let room = leaves_of p a (c.args.source * slot_size p) c.get-region.result c.in-Some.cap f c.slot-from.ensures r (c.has_room.ensures c.if-not-has_room.false) in
    let Q : Forest Entry → Type 0 = IsTestForest p in
    subst Q (sym c.put_new.ensures.forest)
    (kept_retyped p a (address_of p c.slot-to.result) c.in-Some.cap f c.requires.forest c.in-Some.ensures.lawful (c.args.target, c.requires.target, c.slot-to.ensures)
    (full_from a f (untyped_full (cap_at f a) t)) (c.is_empty.ensures c.if-not-is_empty.false) t i room)
