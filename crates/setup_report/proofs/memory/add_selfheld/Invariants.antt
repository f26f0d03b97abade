use Rattle.std.proofs.Common.{◌≡◌, ◌++◌, take, string_bytes}
use Rattle.std.specs.List.{flat_map}
use Rattle.setup_report.specs.Naming.{naming_view}
use Rattle.setup_report.specs.Report.{selfheld_line}
use Rattle.setup_report.proofs.memory.add_selfheld.Given as goal

abbrev pub invariant-loop-address : goal.invariant-loop-address
invariant-loop-address l = string_bytes l.out ≡ string_bytes l.initial.out ++ flat_map (selfheld_line (naming_view l.naming)) (take l.address-index l.nodes)
