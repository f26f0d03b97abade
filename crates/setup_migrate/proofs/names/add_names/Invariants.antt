use Rattle.std.proofs.Common.{◌≡◌, ◌+◌, ◌*◌}
use Rattle.toml.specs.View.{table_view}
use Rattle.setup_migrate.specs.Migration.{with_words, numbered_names}
use Rattle.setup_migrate.proofs.names.add_names.Given as goal

-- the names so far
abbrev pub invariant-loop-i : goal.invariant-loop-i
invariant-loop-i l = record {
  named : table_view l.names ≡ with_words (numbered_names l.prefix (λ i. l.first + l.step * i) l.i-counter) (table_view l.initial.names);
}
