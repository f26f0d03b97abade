use Rattle.std.proofs.Common.{◌≡◌, ℕ, ◌-◌, true, List, ◌++◌, length, take, drop, sym, ◌∙◌, ap, subst, arith}
use Rattle.std.specs.List.{remove}
use Rattle.std.proofs.lemmas.List.{with_items_is}
use Rattle.slot_core.specs.declared.rows.Row.{Row}
use Rattle.kernel_forest.specs.Derivation.{emptied}
use Rattle.slot_core.specs.Places.{address_of}
use Rattle.slot_core.specs.Rows.{forest_of, place_of, IsRowStore}
use Rattle.slot_core.proofs.RowStores.RowSteps.{source_row, source_below}
use Rattle.slot_core.proofs.RowStores.RowRemoves.{raised_from, length-raised_from, raised_part, rows_removed, store_removed}
use Rattle.slot_core.proofs.RowStores.RowViews.{full_seen, place_seen}
use Rattle.slot_core.proofs.rows.RowStoreCapStore.remove.Goals as goal

pub remove-row-requires : goal.remove-row-requires
remove-row-requires g c =
    let p = g.P.Profile.profile in
    let l = c.self.inside.rows.items in
    let h = full_seen p c.args.slot true l c.self.inside.memory_bits c.args.self.now c.self.view_is c.requires.full in
    let e = place_seen c.args.slot l c.deref.result.now c.place_of-i.result c.deref.ensures.value c.place_of-i.ensures in
    omega (arith, source_below p c.args.slot l h, e, c.deref.ensures.len, ap length c.deref.ensures.value)

pub invariant_of-self : goal.invariant_of-self
invariant_of-self g c =
    let p = g.P.Profile.profile in
    let l = c.self.inside.rows.items in
    let m = c.remove-row.new.self.items in
    let d = c.deref_mut.result.now in
    let k = c.place_of-i.result in
    let h = full_seen p c.args.slot true l c.self.inside.memory_bits c.args.self.now c.self.view_is c.requires.full in
    let e : k ≡ place_of c.args.slot.place l = c.place_of-i.ensures ∙ ap (place_of c.args.slot.place) c.deref.ensures.value in
    let s = source_row p c.args.slot l k c.remove-row.result e h c.remove-row.ensures.value in
    let part : take k d ++ (c.raise.new.rows ++ drop (length d - k) (drop k d)) ≡ raised_from c.remove-row.result.depth k m = raised_part c.remove-row.result.depth k d m c.raise.new.rows c.deref_mut.ensures.value c.raise.ensures in
    let size = ap length part ∙ length-raised_from c.remove-row.result.depth k m ∙ sym (ap length c.deref_mut.ensures.value) ∙ c.deref_mut.ensures.len in
    let i = with_items_is c.remove-row.new.self (take k d ++ (c.raise.new.rows ++ drop (length d - k) (drop k d))) size ∙ part
    ∙ ap (raised_from c.remove-row.result.depth k) c.remove-row.ensures.items ∙ ap (λ j. raised_from c.remove-row.result.depth j (remove l j)) e
    ∙ ap (λ (r : Row). raised_from r.depth (place_of c.args.slot.place l) (remove l (place_of c.args.slot.place l))) s.1 in
    let Q : List Row → Type 0 = IsRowStore p c.self.inside.memory_bits c.remove-row.new.self.cap in
    subst Q (sym i) (store_removed p c.self.inside.memory_bits c.self.inside.rows.cap c.remove-row.new.self.cap c.args.slot l s.0 c.self.invariant c.remove-row.ensures.capacity)

pub returns-clause-forest : goal.returns-clause-forest
returns-clause-forest g c =
    let p = g.P.Profile.profile in
    let l = c.self.inside.rows.items in
    let m = c.remove-row.new.self.items in
    let d = c.deref_mut.result.now in
    let k = c.place_of-i.result in
    let h = full_seen p c.args.slot true l c.self.inside.memory_bits c.args.self.now c.self.view_is c.requires.full in
    let e : k ≡ place_of c.args.slot.place l = c.place_of-i.ensures ∙ ap (place_of c.args.slot.place) c.deref.ensures.value in
    let s = source_row p c.args.slot l k c.remove-row.result e h c.remove-row.ensures.value in
    let part : take k d ++ (c.raise.new.rows ++ drop (length d - k) (drop k d)) ≡ raised_from c.remove-row.result.depth k m = raised_part c.remove-row.result.depth k d m c.raise.new.rows c.deref_mut.ensures.value c.raise.ensures in
    let size = ap length part ∙ length-raised_from c.remove-row.result.depth k m ∙ sym (ap length c.deref_mut.ensures.value) ∙ c.deref_mut.ensures.len in
    let i = with_items_is c.remove-row.new.self (take k d ++ (c.raise.new.rows ++ drop (length d - k) (drop k d))) size ∙ part
    ∙ ap (raised_from c.remove-row.result.depth k) c.remove-row.ensures.items ∙ ap (λ j. raised_from c.remove-row.result.depth j (remove l j)) e
    ∙ ap (λ (r : Row). raised_from r.depth (place_of c.args.slot.place l) (remove l (place_of c.args.slot.place l))) s.1 in
    ap (forest_of p) i ∙ rows_removed p c.args.slot l s.0 c.self.invariant.apart c.self.invariant.stepwise
    ∙ ap (λ (n : List Row × ℕ). emptied (address_of p c.args.slot) (forest_of p n.0)) c.self.view_is
