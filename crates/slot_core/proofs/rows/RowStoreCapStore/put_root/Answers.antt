use Rattle.std.proofs.Common.{◌≡◌, ℕ, false, true, List, refl, sym, ◌∙◌, ap, subst, arith}
use Rattle.std.specs.Prelude.{vec_capacity}
use Rattle.slot_core.specs.declared.rows.Row.{Row}
use Rattle.kernel_forest.specs.Derivation.{rooted}
use Rattle.slot_core.specs.Places.{address_of}
use Rattle.slot_core.specs.Rows.{forest_of, IsRowStore}
use Rattle.slot_core.proofs.RowStores.RowLists.{rows_root}
use Rattle.slot_core.proofs.RowStores.RowSteps.{room_left, store_pushed}
use Rattle.slot_core.proofs.RowStores.RowViews.{full_seen, lawful_seen, within_seen}
use Rattle.slot_core.proofs.rows.RowStoreCapStore.put_root.Goals as goal

pub unreachable-requires : goal.unreachable-requires
unreachable-requires g c =
    let p = g.P.Profile.profile in
    let l = c.self.inside.rows.items in
    let x : Row = record { slot = c.args.slot; cap = c.args.cap; original = true; depth = 0 } in
    let v : c.args.self.now ≡ (l, c.self.inside.memory_bits) = sym c.self.view_is in
    let w = within_seen p c.args.slot l c.self.inside.memory_bits c.args.self.now c.self.view_is c.requires.within in
    let h = full_seen p c.args.slot false l c.self.inside.memory_bits c.args.self.now c.self.view_is c.requires.empty in
    omega (arith, room_left p c.self.inside.memory_bits (vec_capacity c.self.inside.rows) l x c.self.invariant w h, c.in-Err.ensures.full)

pub invariant_of-self : goal.invariant_of-self
invariant_of-self g c =
    let p = g.P.Profile.profile in
    let l = c.self.inside.rows.items in
    let m = c.self.inside.memory_bits in
    let x : Row = record { slot = c.args.slot; cap = c.args.cap; original = true; depth = 0 } in
    let v : c.args.self.now ≡ (l, m) = sym c.self.view_is in
    let w = within_seen p c.args.slot l c.self.inside.memory_bits c.args.self.now c.self.view_is c.requires.within in
    let h = full_seen p c.args.slot false l c.self.inside.memory_bits c.args.self.now c.self.view_is c.requires.empty in
    let f = lawful_seen p c.args.cap l c.self.inside.memory_bits c.args.self.now c.self.view_is c.requires.lawful in
    let Q : List Row → Type 0 = IsRowStore p m (vec_capacity c.push.new.self) in
    subst Q (sym {A = List Row} c.in-Ok.ensures.items) (store_pushed p m (vec_capacity c.self.inside.rows) (vec_capacity c.push.new.self) l x c.self.invariant c.in-Ok.ensures.capacity w h f refl (λ u. refl))

pub returns-clause-forest : goal.returns-clause-forest
returns-clause-forest g c =
    let p = g.P.Profile.profile in
    let l = c.self.inside.rows.items in
    let x : Row = record { slot = c.args.slot; cap = c.args.cap; original = true; depth = 0 } in
    ap (forest_of p) c.in-Ok.ensures.items ∙ rows_root p c.args.slot c.args.cap l x refl refl
    ∙ ap (λ (v : List Row × ℕ). rooted (address_of p c.args.slot) c.args.cap (forest_of p v.0)) c.self.view_is
