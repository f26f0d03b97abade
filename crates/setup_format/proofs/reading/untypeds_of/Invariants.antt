use Rattle.std.proofs.Common.{◌≡◌, ◌+◌, All, map, length, drop}
use Rattle.toml.specs.View.{table_view}
use Rattle.kernel_abstract.specs.Plan.{IsUntypedSize}
use Rattle.setup_values.specs.Kinds.{each}
use Rattle.setup_format.specs.Setups.{untyped_at}
use Rattle.setup_values.proofs.Loops.{with_front}
use Rattle.setup_format.proofs.reading.untypeds_of.Given as goal

abbrev pub invariant-loop-i : goal.invariant-loop-i
invariant-loop-i g l = record {
  count : length l.regions.items ≡ l.i;
  sized : All (IsUntypedSize g.P.Profile.profile) l.regions.items;
  so_far : with_front l.regions.items (each (untyped_at g.P.Profile.profile) (1 + l.i) (map (λ t. table_view t.now) (drop l.i l.tables)))
      ≡ each (untyped_at g.P.Profile.profile) 1 (map (λ t. table_view t.now) l.tables);
}
