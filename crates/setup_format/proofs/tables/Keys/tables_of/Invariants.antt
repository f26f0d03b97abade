use Rattle.std.proofs.Common.{◌≡◌, ◌+◌, map, length, drop}
use Rattle.toml.specs.View.{view, table_view}
use Rattle.toml.specs.Data.{as_table}
use Rattle.setup_values.specs.Kinds.{each, table_in}
use Rattle.setup_values.proofs.Loops.{with_front}
use Rattle.setup_format.proofs.tables.Keys.tables_of.Given as goal

abbrev pub invariant-loop-element : goal.invariant-loop-element
invariant-loop-element g l = record {
  count : length l.tables.items ≡ l.element-index;
  so_far : with_front (map (λ t. table_view t.now) l.tables.items) (each (λ _ e. table_in (as_table e)) (0 + l.element-index) (map view (drop l.element-index l.elements)))
      ≡ each (λ _ e. table_in (as_table e)) 0 (map view l.elements);
}
