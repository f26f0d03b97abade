use Rattle.std.proofs.Common.{◌≡◌, ℕ, ◌+◌, false, true, cond, List, length, refl, sym, ◌∙◌, ap, subst, arith}
use Rattle.std.specs.Prelude.{vec_capacity}
use Rattle.std.specs.List.{insert}
use Rattle.cap_core.specs.Objects.{is_untyped}
use Rattle.slot_core.specs.declared.rows.Row.{Row}
use Rattle.kernel_forest.specs.Forest.{preorder}
use Rattle.kernel_forest.specs.Entries.{is_full}
use Rattle.kernel_forest.specs.Derivation.{retyped}
use Rattle.slot_core.specs.Places.{address_of}
use Rattle.slot_core.specs.Rows.{forest_of, place_of, derived_depth, IsRowStore}
use Rattle.slot_core.proofs.RowStores.RowLists.{rows_new, standing_cap}
use Rattle.slot_core.proofs.RowStores.RowSteps.{source_row, source_below, source_depth, room_left, store_derived}
use Rattle.slot_core.proofs.RowStores.RowEdits.{untyped_full, standing_untyped}
use Rattle.slot_core.proofs.RowStores.RowViews.{full_seen, lawful_seen, place_seen, untyped_seen, within_seen}
use Rattle.slot_core.proofs.rows.RowStoreCapStore.put_new.Goals as goal

pub index-requires : goal.index-requires
index-requires g c =
    let p = g.P.Profile.profile in
    let l = c.self.inside.rows.items in
    let u = untyped_seen p c.args.parent l c.self.inside.memory_bits c.args.self.now c.self.view_is c.requires.parent in
    let full : is_full (address_of p c.args.parent) (forest_of p l) ≡ true = untyped_full (address_of p c.args.parent) (preorder (forest_of p l)) u in
    let e = place_seen c.args.parent l c.deref.result.now c.place_of-i.result c.deref.ensures.value c.place_of-i.ensures in
    omega (arith, source_below p c.args.parent l full, e, c.deref.ensures.len, ap length c.deref.ensures.value)

pub overflow_add-child : goal.overflow_add-child
overflow_add-child g c =
    let p = g.P.Profile.profile in
    let l = c.self.inside.rows.items in
    let u = untyped_seen p c.args.parent l c.self.inside.memory_bits c.args.self.now c.self.view_is c.requires.parent in
    let full : is_full (address_of p c.args.parent) (forest_of p l) ≡ true = untyped_full (address_of p c.args.parent) (preorder (forest_of p l)) u in
    let e = place_seen c.args.parent l c.deref.result.now c.place_of-i.result c.deref.ensures.value c.place_of-i.ensures in
    omega (arith, source_depth p c.args.parent l c.place_of-i.result c.index.result.now e full c.index.ensures c.self.invariant.stepwise, source_below p c.args.parent l full, e, c.deref.type_inv.0, ap length c.deref.ensures.value)

pub overflow_add-i : goal.overflow_add-i
overflow_add-i g c =
    let p = g.P.Profile.profile in
    let l = c.self.inside.rows.items in
    let u = untyped_seen p c.args.parent l c.self.inside.memory_bits c.args.self.now c.self.view_is c.requires.parent in
    let full : is_full (address_of p c.args.parent) (forest_of p l) ≡ true = untyped_full (address_of p c.args.parent) (preorder (forest_of p l)) u in
    let e = place_seen c.args.parent l c.deref.result.now c.place_of-i.result c.deref.ensures.value c.place_of-i.ensures in
    omega (arith, source_below p c.args.parent l full, e, c.deref.type_inv.0, ap length c.deref.ensures.value)

pub insert-requires : goal.insert-requires
insert-requires g c =
    let p = g.P.Profile.profile in
    let l = c.self.inside.rows.items in
    let u = untyped_seen p c.args.parent l c.self.inside.memory_bits c.args.self.now c.self.view_is c.requires.parent in
    let full : is_full (address_of p c.args.parent) (forest_of p l) ≡ true = untyped_full (address_of p c.args.parent) (preorder (forest_of p l)) u in
    let e = place_seen c.args.parent l c.deref.result.now c.place_of-i.result c.deref.ensures.value c.place_of-i.ensures in
    omega (arith, source_below p c.args.parent l full, e, c.deref.ensures.len, ap length c.deref.ensures.value)

pub unreachable-requires : goal.unreachable-requires
unreachable-requires g c =
    let p = g.P.Profile.profile in
    let l = c.self.inside.rows.items in
    let x : Row = record { slot = c.args.slot; cap = c.args.cap; original = true; depth = 0 } in
    let v : c.args.self.now ≡ (l, c.self.inside.memory_bits) = sym c.self.view_is in
    let w = within_seen p c.args.slot l c.self.inside.memory_bits c.args.self.now c.self.view_is c.requires.within in
    let h = full_seen p c.args.slot false l c.self.inside.memory_bits c.args.self.now c.self.view_is c.requires.empty in
    omega (arith, room_left p c.self.inside.memory_bits (vec_capacity c.self.inside.rows) l x c.self.invariant w h, c.in-Err.ensures.full)

pub invariant_of-self : goal.invariant_of-self
invariant_of-self g c =
    let p = g.P.Profile.profile in
    let l = c.self.inside.rows.items in
    let u = untyped_seen p c.args.parent l c.self.inside.memory_bits c.args.self.now c.self.view_is c.requires.parent in
    let full : is_full (address_of p c.args.parent) (forest_of p l) ≡ true = untyped_full (address_of p c.args.parent) (preorder (forest_of p l)) u in
    let e = place_seen c.args.parent l c.deref.result.now c.place_of-i.result c.deref.ensures.value c.place_of-i.ensures in
    let m = c.self.inside.memory_bits in
    let v : c.args.self.now ≡ (l, m) = sym c.self.view_is in
    let w = within_seen p c.args.slot l c.self.inside.memory_bits c.args.self.now c.self.view_is c.requires.within in
    let h = full_seen p c.args.slot false l c.self.inside.memory_bits c.args.self.now c.self.view_is c.requires.empty in
    let f = lawful_seen p c.args.cap l c.self.inside.memory_bits c.args.self.now c.self.view_is c.requires.lawful in
    let s = source_row p c.args.parent l c.place_of-i.result c.index.result.now e full c.index.ensures in
    let o : s.0.row.original ≡ true = standing_untyped p c.args.parent l s.0 c.self.invariant.untyped (ap is_untyped (sym (standing_cap p c.args.parent l s.0)) ∙ u) in
    let x : Row = record { slot = c.args.slot; cap = c.args.cap; original = true; depth = s.0.row.depth + 1 } in
    let i : c.insert.new.self.items ≡ insert l (place_of c.args.parent.place l + 1) x =
    c.in-Ok.ensures.items ∙ ap (λ j. insert l (j + 1) (record { slot = c.args.slot; cap = c.args.cap; original = true; depth = c.index.result.now.depth + 1 })) e
    ∙ ap (λ (r : Row). insert l (place_of c.args.parent.place l + 1) (record { slot = c.args.slot; cap = c.args.cap; original = true; depth = r.depth + 1 })) s.1 in
    let d : s.0.row.depth + 1 ≡ derived_depth s.0.row = ap (λ b. cond b (s.0.row.depth + 1) s.0.row.depth) (sym o) in
    let Q : List Row → Type 0 = IsRowStore p m (vec_capacity c.insert.new.self) in
    subst Q (sym {A = List Row} i) (store_derived p m (vec_capacity c.self.inside.rows) (vec_capacity c.insert.new.self) c.args.parent l s.0 x c.self.invariant c.in-Ok.ensures.capacity w h f d (λ t. refl))

pub returns-clause-forest : goal.returns-clause-forest
returns-clause-forest g c =
    let p = g.P.Profile.profile in
    let l = c.self.inside.rows.items in
    let u = untyped_seen p c.args.parent l c.self.inside.memory_bits c.args.self.now c.self.view_is c.requires.parent in
    let full : is_full (address_of p c.args.parent) (forest_of p l) ≡ true = untyped_full (address_of p c.args.parent) (preorder (forest_of p l)) u in
    let e = place_seen c.args.parent l c.deref.result.now c.place_of-i.result c.deref.ensures.value c.place_of-i.ensures in
    let s = source_row p c.args.parent l c.place_of-i.result c.index.result.now e full c.index.ensures in
    let o : s.0.row.original ≡ true = standing_untyped p c.args.parent l s.0 c.self.invariant.untyped (ap is_untyped (sym (standing_cap p c.args.parent l s.0)) ∙ u) in
    let x : Row = record { slot = c.args.slot; cap = c.args.cap; original = true; depth = s.0.row.depth + 1 } in
    let i : c.insert.new.self.items ≡ insert l (place_of c.args.parent.place l + 1) x =
    c.in-Ok.ensures.items ∙ ap (λ j. insert l (j + 1) (record { slot = c.args.slot; cap = c.args.cap; original = true; depth = c.index.result.now.depth + 1 })) e
    ∙ ap (λ (r : Row). insert l (place_of c.args.parent.place l + 1) (record { slot = c.args.slot; cap = c.args.cap; original = true; depth = r.depth + 1 })) s.1 in
    ap (forest_of p) i ∙ rows_new p c.args.parent c.args.slot c.args.cap l s.0 x c.self.invariant.apart c.self.invariant.stepwise o refl refl
    ∙ ap (λ (n : List Row × ℕ). retyped (address_of p c.args.parent) (address_of p c.args.slot) c.args.cap (forest_of p n.0)) c.self.view_is
