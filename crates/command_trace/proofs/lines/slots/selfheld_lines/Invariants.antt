use Rattle.std.proofs.Common.{◌≡◌, map, take}
use Rattle.std.specs.List.{flat_map}
use Rattle.setup_report.specs.Naming.{naming_view}
use Rattle.command_trace.specs.Lines.{line_at, selfheld_at}
use Rattle.command_trace.specs.Views.{line_view}
use Rattle.command_trace.proofs.lines.slots.selfheld_lines.Given as goal

abbrev pub invariant-loop-node : goal.invariant-loop-node
invariant-loop-node l = map line_view l.lines.items ≡ flat_map (line_at (selfheld_at (naming_view l.naming))) (take l.node-index l.nodes)
