use Rattle.std.proofs.Common.{◌≡◌, ◌++◌, drop, map}
use Rattle.std.specs.List.{flat_map}
use Rattle.toml.specs.View.{view, items_view}
use Rattle.command_explore.specs.Witnesses.{chosen_call}
use Rattle.command_explore.proofs.report.tables.chosen_items.Given as goal

abbrev pub invariant-loop-number : goal.invariant-loop-number
invariant-loop-number l = map view l.chosen.items ++ flat_map (chosen_call l.kept (items_view l.calls)) (drop l.number-index l.numbers) ≡ flat_map (chosen_call l.kept (items_view l.calls)) l.numbers
