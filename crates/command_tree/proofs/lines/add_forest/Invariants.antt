use Rattle.std.proofs.Common.{◌≡◌, ◌++◌, [], map, drop, string_bytes}
use Rattle.std.specs.List.{flat_map}
use Rattle.slot_core.specs.Calls.{derivation_view}
use Rattle.setup_report.specs.Naming.{naming_view}
use Rattle.command_tree.specs.Tree.{placed_line}
use Rattle.command_tree.specs.Private.Path.{slots_with_paths}
use Rattle.command_tree.proofs.lines.add_forest.Given as goal

-- what is written, with the lines of the full slots that are left, is all that has to be written
abbrev pub invariant-loop-row : goal.invariant-loop-row
invariant-loop-row g l =
    string_bytes l.out ++ flat_map (placed_line (naming_view l.naming)) (slots_with_paths l.path.items (map (derivation_view g.P.Profile.profile) (drop l.row-index l.rows)))
    ≡ string_bytes l.initial.out ++ flat_map (placed_line (naming_view l.naming)) (slots_with_paths [] (map (derivation_view g.P.Profile.profile) l.rows))
