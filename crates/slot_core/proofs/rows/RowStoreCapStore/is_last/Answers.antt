use Rattle.std.proofs.Common.{ℕ, List, sym, ◌∙◌, ap}
use Rattle.std.specs.Prelude.{not}
use Rattle.std.specs.List.{list_any}
use Rattle.slot_core.specs.declared.rows.Row.{Row}
use Rattle.kernel_forest.specs.Entries.{cap_at}
use Rattle.kernel_forest.specs.Derivation.{is_last}
use Rattle.slot_core.specs.Places.{address_of}
use Rattle.slot_core.specs.Rows.{forest_of, names_elsewhere}
use Rattle.slot_core.proofs.RowStores.RowLists.{not_untyped, rows_last}
use Rattle.slot_core.proofs.rows.RowStoreCapStore.is_last.Goals as goal

pub returns-in_default : goal.returns-in_default
returns-in_default g c =
    let p = g.P.Profile.profile in
    let l = c.self.inside.rows.items in
    ap not (c.is_named_elsewhere.ensures ∙ ap (list_any (names_elsewhere c.args.slot.place c.get-cap.result)) c.deref.ensures.value)
    ∙ rows_last p c.args.slot l c.get-cap.result (c.get-cap.ensures.cap ∙ ap (λ (v : List Row × ℕ). cap_at (forest_of p v.0) (address_of p c.args.slot)) (sym c.self.view_is)) (not_untyped c.get-cap.result c.in_default.not-Untyped)
    ∙ ap (λ (v : List Row × ℕ). is_last (address_of p c.args.slot) (forest_of p v.0)) c.self.view_is
