use Rattle.std.proofs.Common.{◌≡◌, ◌+◌, ◌<◌, All, map, length, drop}
use Rattle.toml.specs.View.{table_view}
use Rattle.setup_values.specs.Kinds.{each}
use Rattle.setup_values.specs.Names.{names_view}
use Rattle.setup_format.specs.Views.{CallView}
use Rattle.setup_format.specs.Setups.{call_at}
use Rattle.setup_values.proofs.Loops.{with_front}
use Rattle.setup_format.proofs.reading.calls_of.Given as goal

abbrev pub invariant-loop-i : goal.invariant-loop-i
invariant-loop-i g l = record {
  count : length l.calls ≡ l.i;
  clients : All (λ (c : CallView). c.client < l.clients) l.calls;
  so_far : with_front l.calls (each (call_at g.P.Profile.profile (names_view l.names) l.clients) (1 + l.i) (map (λ t. table_view t.now) (drop l.i l.tables)))
      ≡ each (call_at g.P.Profile.profile (names_view l.names) l.clients) 1 (map (λ t. table_view t.now) l.tables);
}
