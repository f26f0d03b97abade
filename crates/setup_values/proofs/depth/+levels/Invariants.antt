-- What is left is within the levels exactly where the whole is.
use Rattle.std.proofs.Common.{◌≤◌, ◌↔◌, drop}
use Rattle.toml.specs.Data.{items_depth, members_depth}
use Rattle.toml.specs.View.{items_view, members_view}
use Rattle.setup_values.proofs.depth.+levels.Given as goal

abbrev pub invariant-array_is_within-items : goal.invariant-array_is_within-items
invariant-array_is_within-items l =
    (items_depth (items_view (drop l.item-index l.item-items)) ≤ l.levels) ↔ (items_depth (items_view l.item-items) ≤ l.levels)

abbrev pub invariant-table_is_within-members : goal.invariant-table_is_within-members
invariant-table_is_within-members l =
    (goal.iterator-table_is_within-members).can_next l._key-iterator
    × (goal.iterator-table_is_within-members).is_finite l._key-iterator
    × ((members_depth (members_view l._key-iterator) ≤ l.levels) ↔ (members_depth (members_view l.table.entries) ≤ l.levels))
