use Rattle.std.proofs.Common.{◌≡◌, ℕ, ◌^◌, List, length, get_or, sym, ◌∙◌, ap, arith}
use Rattle.std.proofs.lemmas.Bool.Decides.{nat_tests}
use Rattle.slot_core.specs.declared.rows.Row.{Row}
use Rattle.kernel_forest.specs.Entries.{cap_at}
use Rattle.slot_core.specs.Places.{address_of}
use Rattle.slot_core.specs.Rows.{forest_of, place_of}
use Rattle.slot_core.proofs.RowStores.RowLists.{standing_cap, absent_cap}
use Rattle.slot_core.proofs.RowStores.RowSteps.{found, not_found, row_within}
use Rattle.slot_core.proofs.rows.RowStoreCapStore.get.Goals as goal

pub returns-in-Some-clause-cap : goal.returns-in-Some-clause-cap
returns-in-Some-clause-cap g c =
    let p = g.P.Profile.profile in
    let l = c.self.inside.rows.items in
    let f = found p c.args.slot l c.place_of.result c.in-Some.row.now (c.place_of.ensures ∙ ap (place_of c.args.slot.place) c.deref-2.ensures.value)
    (let n = ap length c.deref.ensures.value in grind (arith, nat_tests, c.in-Some.ensures.lookup.0, n))
    (c.in-Some.ensures.lookup.1 ∙ ap (λ (m : List Row). get_or m c.place_of.result c.in-Some.row.now) c.deref.ensures.value) in
    ap (λ (r : Row). r.cap) f.1 ∙ sym (standing_cap p c.args.slot l f.0)
    ∙ ap (λ (v : List Row × ℕ). cap_at (forest_of p v.0) (address_of p c.args.slot)) c.self.view_is

pub returns-in-Some-clause-past : goal.returns-in-Some-clause-past
returns-in-Some-clause-past g c h =
    let p = g.P.Profile.profile in
    let l = c.self.inside.rows.items in
    let f = found p c.args.slot l c.place_of.result c.in-Some.row.now (c.place_of.ensures ∙ ap (place_of c.args.slot.place) c.deref-2.ensures.value)
    (let n = ap length c.deref.ensures.value in grind (arith, nat_tests, c.in-Some.ensures.lookup.0, n))
    (c.in-Some.ensures.lookup.1 ∙ ap (λ (m : List Row). get_or m c.place_of.result c.in-Some.row.now) c.deref.ensures.value) in
    absurd (let m : c.self.inside.memory_bits ≡ c.args.self.now.1 = ap (λ (v : List Row × ℕ). v.1) c.self.view_is in
    let e : 2 ^ c.self.inside.memory_bits ≡ 2 ^ c.args.self.now.1 = ap (λ n. 2 ^ n) m in
    omega (arith, row_within p c.self.inside.memory_bits c.args.slot l f.0 c.self.invariant.within, e, h))

pub returns-in-None-clause-cap : goal.returns-in-None-clause-cap
returns-in-None-clause-cap g c =
    let p = g.P.Profile.profile in
    let l = c.self.inside.rows.items in
    let a = not_found p c.args.slot l c.place_of.result (c.place_of.ensures ∙ ap (place_of c.args.slot.place) c.deref-2.ensures.value)
    (let n = ap length c.deref.ensures.value in grind (arith, nat_tests, c.in-None.ensures.lookup.0, n)) in
    sym (absent_cap p c.args.slot l a)
    ∙ ap (λ (v : List Row × ℕ). cap_at (forest_of p v.0) (address_of p c.args.slot)) c.self.view_is
