use Rattle.std.proofs.Common.{ℕ, ◌≤◌, List, length, sym, ◌∙◌, ap, arith}
use Rattle.std.proofs.Math.ListN.{drop_of_length-le}
use Rattle.kernel_forest.specs.Entries.{derivations_of}
use Rattle.slot_core.specs.declared.rows.Row.{Row}
use Rattle.slot_core.specs.Rows.{forest_of}
use Rattle.slot_core.proofs.RowStores.RowWalks.{found_on, found_all, all_found}
use Rattle.slot_core.proofs.rows.RowStoreDerivationStore.derivations.Goals as goal

pub returns : goal.returns
returns g c =
    let p = g.P.Profile.profile in
    let rows = c.deref-row-items.result.now in
    let over : length rows ≤ c.loop-row.row-index = omega arith in
    sym (all_found p c.loop-row.found.items c.loop-row.above.items)
    ∙ ap (found_on p c.loop-row.found.items c.loop-row.above.items) (sym (drop_of_length-le rows over))
    ∙ c.loop-row.invariant
    ∙ found_all p rows
    ∙ ap (λ (m : List Row). derivations_of (forest_of p m)) c.deref-row-items.ensures.value
    ∙ ap (λ (v : List Row × ℕ). derivations_of (forest_of p v.0)) c.self.view_is
