use Rattle.std.proofs.Common.{ℕ, ◌+◌, List, length, get_or, sym, ◌∙◌, ap, arith}
use Rattle.std.specs.Prelude.{option_map}
use Rattle.std.proofs.lemmas.Bool.Decides.{nat_tests}
use Rattle.slot_core.specs.declared.rows.Row.{Row}
use Rattle.kernel_forest.specs.Entries.{first_child}
use Rattle.slot_core.specs.Places.{address_of}
use Rattle.slot_core.specs.Rows.{forest_of, place_of}
use Rattle.slot_core.proofs.RowStores.RowLists.{absent_child}
use Rattle.slot_core.proofs.RowStores.RowSteps.{found, not_found, child_found, no_child, last_row}
use Rattle.slot_core.proofs.RowStores.RowViews.{place_seen}
use Rattle.slot_core.proofs.rows.RowStoreCapStore.first_child.Goals as goal

pub returns-in_err-row : goal.returns-in_err-row
returns-in_err-row g c =
    let p = g.P.Profile.profile in
    let l = c.self.inside.rows.items in
    let a = not_found p c.args.slot l c.place_of-i.result (c.place_of-i.ensures ∙ ap (place_of c.args.slot.place) c.deref.ensures.value)
    (let n = ap length c.deref-2.ensures.value in grind (arith, nat_tests, c.in_err-row.ensures.lookup.0, n)) in
    ap (option_map (address_of p)) c.from_residual.ensures ∙ sym (absent_child p c.args.slot l a)
    ∙ ap (λ (v : List Row × ℕ). first_child (address_of p c.args.slot) (forest_of p v.0)) c.self.view_is

pub returns-in_err-next : goal.returns-in_err-next
returns-in_err-next g c =
    let p = g.P.Profile.profile in
    let l = c.self.inside.rows.items in
    let e = place_seen c.args.slot l c.deref.result.now c.place_of-i.result c.deref.ensures.value c.place_of-i.ensures in
    let f = found p c.args.slot l c.place_of-i.result c.in_ok-row.row.now e
    (let n = ap length c.deref-2.ensures.value in grind (arith, nat_tests, c.in_ok-row.ensures.lookup.0, n))
    (c.in_ok-row.ensures.lookup.1 ∙ ap (λ (m : List Row). get_or m c.place_of-i.result c.in_ok-row.row.now) c.deref-2.ensures.value) in
    ap (option_map (address_of p)) c.from_residual-in_err-next.ensures
    ∙ last_row p c.args.slot l f.0 c.self.invariant.apart (let n = ap length c.deref-3.ensures.value in grind (arith, nat_tests, c.in_err-next.ensures.lookup.0, n, e))
    ∙ ap (λ (v : List Row × ℕ). first_child (address_of p c.args.slot) (forest_of p v.0)) c.self.view_is

pub returns-then-row-next : goal.returns-then-row-next
returns-then-row-next g c =
    let p = g.P.Profile.profile in
    let l = c.self.inside.rows.items in
    let e = place_seen c.args.slot l c.deref.result.now c.place_of-i.result c.deref.ensures.value c.place_of-i.ensures in
    let f = found p c.args.slot l c.place_of-i.result c.in_ok-row.row.now e
    (let n = ap length c.deref-2.ensures.value in grind (arith, nat_tests, c.in_ok-row.ensures.lookup.0, n))
    (c.in_ok-row.ensures.lookup.1 ∙ ap (λ (m : List Row). get_or m c.place_of-i.result c.in_ok-row.row.now) c.deref-2.ensures.value) in
    child_found p c.args.slot l f.0 c.in_ok-next.next.now c.self.invariant.apart
    (let n = ap length c.deref-3.ensures.value in grind (arith, nat_tests, c.in_ok-next.ensures.lookup.0, n, e))
    (c.in_ok-next.ensures.lookup.1 ∙ ap (λ (m : List Row). get_or m (c.place_of-i.result + 1) c.in_ok-next.next.now) c.deref-3.ensures.value ∙ ap (λ k. get_or l (k + 1) c.in_ok-next.next.now) e)
    (let d = ap (λ (r : Row). r.depth) f.1 in omega (arith, d))
    ∙ ap (λ (v : List Row × ℕ). first_child (address_of p c.args.slot) (forest_of p v.0)) c.self.view_is

pub returns-else-row-next : goal.returns-else-row-next
returns-else-row-next g c =
    let p = g.P.Profile.profile in
    let l = c.self.inside.rows.items in
    let e = place_seen c.args.slot l c.deref.result.now c.place_of-i.result c.deref.ensures.value c.place_of-i.ensures in
    let f = found p c.args.slot l c.place_of-i.result c.in_ok-row.row.now e
    (let n = ap length c.deref-2.ensures.value in grind (arith, nat_tests, c.in_ok-row.ensures.lookup.0, n))
    (c.in_ok-row.ensures.lookup.1 ∙ ap (λ (m : List Row). get_or m c.place_of-i.result c.in_ok-row.row.now) c.deref-2.ensures.value) in
    no_child p c.args.slot l f.0 c.in_ok-next.next.now c.self.invariant.apart
    (let n = ap length c.deref-3.ensures.value in grind (arith, nat_tests, c.in_ok-next.ensures.lookup.0, n, e))
    (c.in_ok-next.ensures.lookup.1 ∙ ap (λ (m : List Row). get_or m (c.place_of-i.result + 1) c.in_ok-next.next.now) c.deref-3.ensures.value ∙ ap (λ k. get_or l (k + 1) c.in_ok-next.next.now) e)
    (let d = ap (λ (r : Row). r.depth) f.1 in omega (arith, d))
    ∙ ap (λ (v : List Row × ℕ). first_child (address_of p c.args.slot) (forest_of p v.0)) c.self.view_is
