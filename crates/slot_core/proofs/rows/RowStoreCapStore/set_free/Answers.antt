use Rattle.std.proofs.Common.{◌≡◌, ℕ, true, List, length, set, sym, ◌∙◌, ap, subst, arith}
use Rattle.std.specs.Prelude.{vec_capacity}
use Rattle.cap_core.specs.Objects.{IsLawful}
use Rattle.slot_core.specs.declared.rows.Row.{Row}
use Rattle.kernel_forest.specs.Forest.{preorder}
use Rattle.kernel_forest.specs.Entries.{is_full, cap_at}
use Rattle.kernel_forest.specs.Derivation.{freed, with_free}
use Rattle.slot_core.specs.Places.{address_of}
use Rattle.slot_core.specs.Rows.{forest_of, place_of, IsRowStore}
use Rattle.slot_core.proofs.RowStores.RowSteps.{source_row, source_below}
use Rattle.slot_core.proofs.RowStores.RowEdits.{freed_row, rows_freed, store_freed, untyped_full}
use Rattle.slot_core.proofs.RowStores.RowViews.{place_seen, untyped_seen}
use Rattle.slot_core.proofs.rows.RowStoreCapStore.set_free.Goals as goal

pub index_mut-row-requires : goal.index_mut-row-requires
index_mut-row-requires g c =
    let p = g.P.Profile.profile in
    let l = c.self.inside.rows.items in
    let u = untyped_seen p c.args.slot l c.self.inside.memory_bits c.args.self.now c.self.view_is c.requires.untyped in
    let h : is_full (address_of p c.args.slot) (forest_of p l) ≡ true = untyped_full (address_of p c.args.slot) (preorder (forest_of p l)) u in
    let e = place_seen c.args.slot l c.deref.result.now c.place_of-i.result c.deref.ensures.value c.place_of-i.ensures in
    omega (arith, source_below p c.args.slot l h, e, c.deref.ensures.len, ap length c.deref.ensures.value)

pub invariant_of-self : goal.invariant_of-self
invariant_of-self g c =
    let p = g.P.Profile.profile in
    let l = c.self.inside.rows.items in
    let m = c.self.inside.memory_bits in
    let v : c.args.self.now ≡ (l, m) = sym c.self.view_is in
    let u = untyped_seen p c.args.slot l c.self.inside.memory_bits c.args.self.now c.self.view_is c.requires.untyped in
    let full : is_full (address_of p c.args.slot) (forest_of p l) ≡ true = untyped_full (address_of p c.args.slot) (preorder (forest_of p l)) u in
    let f : IsLawful p m (with_free c.args.free (cap_at (forest_of p l) (address_of p c.args.slot))) = (let P : List Row × ℕ → Type 0 = λ n. IsLawful p n.1 (with_free c.args.free (cap_at (forest_of p n.0) (address_of p c.args.slot))) in subst P v c.requires.lawful) in
    let e = place_seen c.args.slot l c.deref.result.now c.place_of-i.result c.deref.ensures.value c.place_of-i.ensures in
    let s = source_row p c.args.slot l c.place_of-i.result c.index_mut-row.result.now e full c.index_mut-row.ensures.value in
    let i : set l c.place_of-i.result (record { slot = c.index_mut-row.result.now.slot; cap = c.with_free-row.result; original = c.index_mut-row.result.now.original; depth = c.index_mut-row.result.now.depth }) ≡ set l (place_of c.args.slot.place l) (freed_row c.args.free s.0.row) =
    ap (λ k. set l c.place_of-i.result (record { slot = c.index_mut-row.result.now.slot; cap = k; original = c.index_mut-row.result.now.original; depth = c.index_mut-row.result.now.depth })) c.with_free-row.ensures
    ∙ ap (λ k. set l k (freed_row c.args.free c.index_mut-row.result.now)) e ∙ ap (λ (r : Row). set l (place_of c.args.slot.place l) (freed_row c.args.free r)) s.1 in
    let Q : List Row → Type 0 = IsRowStore p m (vec_capacity c.self.inside.rows) in
    subst Q (sym i) (store_freed p m (vec_capacity c.self.inside.rows) c.args.slot c.args.free l s.0 c.self.invariant f)

pub returns-clause-forest : goal.returns-clause-forest
returns-clause-forest g c =
    let p = g.P.Profile.profile in
    let l = c.self.inside.rows.items in
    let u = untyped_seen p c.args.slot l c.self.inside.memory_bits c.args.self.now c.self.view_is c.requires.untyped in
    let full : is_full (address_of p c.args.slot) (forest_of p l) ≡ true = untyped_full (address_of p c.args.slot) (preorder (forest_of p l)) u in
    let e = place_seen c.args.slot l c.deref.result.now c.place_of-i.result c.deref.ensures.value c.place_of-i.ensures in
    let s = source_row p c.args.slot l c.place_of-i.result c.index_mut-row.result.now e full c.index_mut-row.ensures.value in
    let i : set l c.place_of-i.result (record { slot = c.index_mut-row.result.now.slot; cap = c.with_free-row.result; original = c.index_mut-row.result.now.original; depth = c.index_mut-row.result.now.depth }) ≡ set l (place_of c.args.slot.place l) (freed_row c.args.free s.0.row) =
    ap (λ k. set l c.place_of-i.result (record { slot = c.index_mut-row.result.now.slot; cap = k; original = c.index_mut-row.result.now.original; depth = c.index_mut-row.result.now.depth })) c.with_free-row.ensures
    ∙ ap (λ k. set l k (freed_row c.args.free c.index_mut-row.result.now)) e ∙ ap (λ (r : Row). set l (place_of c.args.slot.place l) (freed_row c.args.free r)) s.1 in
    ap (forest_of p) i ∙ rows_freed p c.args.slot c.args.free l s.0 c.self.invariant.apart
    ∙ ap (λ (n : List Row × ℕ). freed (address_of p c.args.slot) c.args.free (forest_of p n.0)) c.self.view_is
