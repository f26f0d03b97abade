use Rattle.std.proofs.Common.{◌≡◌, ℕ, false, true, List, length, set, sym, ◌∙◌, ap, subst, arith}
use Rattle.slot_core.specs.declared.rows.Row.{Row}
use Rattle.kernel_forest.specs.Entries.{cap_at}
use Rattle.kernel_forest.specs.Derivation.{moved, names_same}
use Rattle.slot_core.specs.Places.{address_of}
use Rattle.slot_core.specs.Rows.{forest_of, place_of, IsRowStore}
use Rattle.slot_core.proofs.RowStores.RowSteps.{source_row, source_below}
use Rattle.slot_core.proofs.RowStores.RowEdits.{moved_row, rows_moved, store_moved}
use Rattle.slot_core.proofs.RowStores.RowViews.{full_seen, lawful_seen, place_seen, within_seen}
use Rattle.slot_core.proofs.rows.RowStoreCapStore.relocate.Goals as goal

pub index_mut-row-requires : goal.index_mut-row-requires
index_mut-row-requires g c =
    let p = g.P.Profile.profile in
    let l = c.self.inside.rows.items in
    let h = full_seen p c.args.source true l c.self.inside.memory_bits c.args.self.now c.self.view_is c.requires.source in
    let e = place_seen c.args.source l c.deref.result.now c.place_of-i.result c.deref.ensures.value c.place_of-i.ensures in
    omega (arith, source_below p c.args.source l h, e, c.deref.ensures.len, ap length c.deref.ensures.value)

pub invariant_of-self : goal.invariant_of-self
invariant_of-self g c =
    let p = g.P.Profile.profile in
    let l = c.self.inside.rows.items in
    let m = c.self.inside.memory_bits in
    let v : c.args.self.now ≡ (l, m) = sym c.self.view_is in
    let full = full_seen p c.args.source true l c.self.inside.memory_bits c.args.self.now c.self.view_is c.requires.source in
    let w = within_seen p c.args.slot l c.self.inside.memory_bits c.args.self.now c.self.view_is c.requires.within in
    let h = full_seen p c.args.slot false l c.self.inside.memory_bits c.args.self.now c.self.view_is c.requires.empty in
    let f = lawful_seen p c.args.cap l c.self.inside.memory_bits c.args.self.now c.self.view_is c.requires.lawful in
    let n : names_same (cap_at (forest_of p l) (address_of p c.args.source)) c.args.cap ≡ true = (let P : List Row × ℕ → Type 0 = λ n. names_same (cap_at (forest_of p n.0) (address_of p c.args.source)) c.args.cap ≡ true in subst P v c.requires.same) in
    let e = place_seen c.args.source l c.deref.result.now c.place_of-i.result c.deref.ensures.value c.place_of-i.ensures in
    let s = source_row p c.args.source l c.place_of-i.result c.index_mut-row.result.now e full c.index_mut-row.ensures.value in
    let i : set l c.place_of-i.result (moved_row c.args.slot c.args.cap c.index_mut-row.result.now) ≡ set l (place_of c.args.source.place l) (moved_row c.args.slot c.args.cap s.0.row) =
    ap (λ k. set l k (moved_row c.args.slot c.args.cap c.index_mut-row.result.now)) e ∙ ap (λ (r : Row). set l (place_of c.args.source.place l) (moved_row c.args.slot c.args.cap r)) s.1 in
    let Q : List Row → Type 0 = IsRowStore p m c.self.inside.rows.cap in
    subst Q (sym i) (store_moved p m c.self.inside.rows.cap c.args.source c.args.slot c.args.cap l s.0 c.self.invariant w h f n)

pub returns-clause-forest : goal.returns-clause-forest
returns-clause-forest g c =
    let p = g.P.Profile.profile in
    let l = c.self.inside.rows.items in
    let full = full_seen p c.args.source true l c.self.inside.memory_bits c.args.self.now c.self.view_is c.requires.source in
    let e = place_seen c.args.source l c.deref.result.now c.place_of-i.result c.deref.ensures.value c.place_of-i.ensures in
    let s = source_row p c.args.source l c.place_of-i.result c.index_mut-row.result.now e full c.index_mut-row.ensures.value in
    let i : set l c.place_of-i.result (moved_row c.args.slot c.args.cap c.index_mut-row.result.now) ≡ set l (place_of c.args.source.place l) (moved_row c.args.slot c.args.cap s.0.row) =
    ap (λ k. set l k (moved_row c.args.slot c.args.cap c.index_mut-row.result.now)) e ∙ ap (λ (r : Row). set l (place_of c.args.source.place l) (moved_row c.args.slot c.args.cap r)) s.1 in
    ap (forest_of p) i ∙ rows_moved p c.args.source c.args.slot c.args.cap l s.0 c.self.invariant.apart
    ∙ ap (λ (n : List Row × ℕ). moved (address_of p c.args.source) (address_of p c.args.slot) c.args.cap (forest_of p n.0)) c.self.view_is
