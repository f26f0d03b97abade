use Rattle.std.proofs.Common.{◌≡◌, ◌++◌, take, string_bytes}
use Rattle.std.specs.List.{flat_map}
use Rattle.slot_core.specs.Calls.{derivation_view}
use Rattle.setup_report.specs.Naming.{naming_view}
use Rattle.command_tree.specs.Tree.{node_lines}
use Rattle.command_tree.proofs.graph.add_nodes.Given as goal

abbrev pub invariant-loop-row : goal.invariant-loop-row
invariant-loop-row g l = string_bytes l.out ≡ string_bytes l.initial.out
    ++ flat_map (λ row. node_lines (naming_view l.naming) (derivation_view g.P.Profile.profile row)) (take l.row-index l.rows)
