use Rattle.std.proofs.Common.{◌≡◌, ℕ, ◌+◌, false, true, List, length, refl, sym, ◌∙◌, ap, subst, arith}
use Rattle.std.specs.Prelude.{vec_capacity}
use Rattle.std.specs.List.{insert}
use Rattle.slot_core.specs.declared.rows.Row.{Row}
use Rattle.kernel_forest.specs.Derivation.{derived}
use Rattle.slot_core.specs.Places.{address_of}
use Rattle.slot_core.specs.Rows.{forest_of, place_of, derived_row, IsRowStore}
use Rattle.slot_core.proofs.RowStores.RowLists.{rows_derived}
use Rattle.slot_core.proofs.RowStores.RowSteps.{room_left, store_derived, source_row, source_below, source_depth}
use Rattle.slot_core.proofs.RowStores.RowViews.{full_seen, lawful_seen, place_seen, within_seen}
use Rattle.slot_core.proofs.rows.RowStoreCapStore.derive.Goals as goal

pub index-requires : goal.index-requires
index-requires g c =
    let p = g.P.Profile.profile in
    let l = c.self.inside.rows.items in
    let h = full_seen p c.args.source true l c.self.inside.memory_bits c.args.self.now c.self.view_is c.requires.source in
    let e = place_seen c.args.source l c.deref.result.now c.place_of-i.result c.deref.ensures.value c.place_of-i.ensures in
    omega (arith, source_below p c.args.source l h, e, c.deref.ensures.len, ap length c.deref.ensures.value)

pub derived-row-requires : goal.derived-row-requires
derived-row-requires g c =
    let p = g.P.Profile.profile in
    let l = c.self.inside.rows.items in
    let h = full_seen p c.args.source true l c.self.inside.memory_bits c.args.self.now c.self.view_is c.requires.source in
    let e = place_seen c.args.source l c.deref.result.now c.place_of-i.result c.deref.ensures.value c.place_of-i.ensures in
    omega (arith, source_depth p c.args.source l c.place_of-i.result c.index.result.now e h c.index.ensures c.self.invariant.stepwise, source_below p c.args.source l h, e, c.deref.type_inv.0, ap length c.deref.ensures.value)

pub overflow_add-i : goal.overflow_add-i
overflow_add-i g c =
    let p = g.P.Profile.profile in
    let l = c.self.inside.rows.items in
    let h = full_seen p c.args.source true l c.self.inside.memory_bits c.args.self.now c.self.view_is c.requires.source in
    let e = place_seen c.args.source l c.deref.result.now c.place_of-i.result c.deref.ensures.value c.place_of-i.ensures in
    omega (arith, source_below p c.args.source l h, e, c.deref.type_inv.0, ap length c.deref.ensures.value)

pub insert-requires : goal.insert-requires
insert-requires g c =
    let p = g.P.Profile.profile in
    let l = c.self.inside.rows.items in
    let h = full_seen p c.args.source true l c.self.inside.memory_bits c.args.self.now c.self.view_is c.requires.source in
    let e = place_seen c.args.source l c.deref.result.now c.place_of-i.result c.deref.ensures.value c.place_of-i.ensures in
    omega (arith, source_below p c.args.source l h, e, c.deref.ensures.len, ap length c.deref.ensures.value)

pub unreachable-requires : goal.unreachable-requires
unreachable-requires g c =
    let p = g.P.Profile.profile in
    let l = c.self.inside.rows.items in
    let x : Row = record { slot = c.args.slot; cap = c.args.cap; original = true; depth = 0 } in
    let v : c.args.self.now ≡ (l, c.self.inside.memory_bits) = sym c.self.view_is in
    let w = within_seen p c.args.slot l c.self.inside.memory_bits c.args.self.now c.self.view_is c.requires.within in
    let h = full_seen p c.args.slot false l c.self.inside.memory_bits c.args.self.now c.self.view_is c.requires.empty in
    omega (arith, room_left p c.self.inside.memory_bits (vec_capacity c.self.inside.rows) l x c.self.invariant w h, c.in-Err.ensures.full)

pub invariant_of-self : goal.invariant_of-self
invariant_of-self g c =
    let p = g.P.Profile.profile in
    let l = c.self.inside.rows.items in
    let m = c.self.inside.memory_bits in
    let v : c.args.self.now ≡ (l, m) = sym c.self.view_is in
    let full = full_seen p c.args.source true l c.self.inside.memory_bits c.args.self.now c.self.view_is c.requires.source in
    let w = within_seen p c.args.slot l c.self.inside.memory_bits c.args.self.now c.self.view_is c.requires.within in
    let h = full_seen p c.args.slot false l c.self.inside.memory_bits c.args.self.now c.self.view_is c.requires.empty in
    let f = lawful_seen p c.args.cap l c.self.inside.memory_bits c.args.self.now c.self.view_is c.requires.lawful in
    let e = place_seen c.args.source l c.deref.result.now c.place_of-i.result c.deref.ensures.value c.place_of-i.ensures in
    let s = source_row p c.args.source l c.place_of-i.result c.index.result.now e full c.index.ensures in
    let x : Row = derived_row s.0.row c.args.slot c.args.cap in
    let i : c.insert.new.self.items ≡ insert l (place_of c.args.source.place l + 1) x =
    c.in-Ok.ensures.items ∙ ap (λ j. insert l (j + 1) c.derived-row.result) e ∙ ap (insert l (place_of c.args.source.place l + 1)) (c.derived-row.ensures ∙ ap (λ (r : Row). derived_row r c.args.slot c.args.cap) s.1) in
    let Q : List Row → Type 0 = IsRowStore p m (vec_capacity c.insert.new.self) in
    subst Q (sym {A = List Row} i) (store_derived p m (vec_capacity c.self.inside.rows) (vec_capacity c.insert.new.self) c.args.source l s.0 x c.self.invariant c.in-Ok.ensures.capacity w h f refl (λ u. rw u))

pub returns-clause-forest : goal.returns-clause-forest
returns-clause-forest g c =
    let p = g.P.Profile.profile in
    let l = c.self.inside.rows.items in
    let full = full_seen p c.args.source true l c.self.inside.memory_bits c.args.self.now c.self.view_is c.requires.source in
    let e = place_seen c.args.source l c.deref.result.now c.place_of-i.result c.deref.ensures.value c.place_of-i.ensures in
    let s = source_row p c.args.source l c.place_of-i.result c.index.result.now e full c.index.ensures in
    let x : Row = derived_row s.0.row c.args.slot c.args.cap in
    let i : c.insert.new.self.items ≡ insert l (place_of c.args.source.place l + 1) x =
    c.in-Ok.ensures.items ∙ ap (λ j. insert l (j + 1) c.derived-row.result) e ∙ ap (insert l (place_of c.args.source.place l + 1)) (c.derived-row.ensures ∙ ap (λ (r : Row). derived_row r c.args.slot c.args.cap) s.1) in
    ap (forest_of p) i ∙ rows_derived p c.args.source c.args.slot c.args.cap l s.0 c.self.invariant.apart c.self.invariant.stepwise
    ∙ ap (λ (n : List Row × ℕ). derived (address_of p c.args.source) (address_of p c.args.slot) c.args.cap (forest_of p n.0)) c.self.view_is
