use Rattle.std.proofs.Common.{◌≡◌, ◌++◌, drop}
use Rattle.std.specs.List.{filter_map}
use Rattle.slot_core.specs.declared.derivations.Derivation.{Derivation}
use Rattle.setup_report.specs.Naming as spec
use Rattle.setup_report.proofs.objects.live_nodes.Given as goal

abbrev pub invariant-loop-row : goal.invariant-loop-row
invariant-loop-row l =
    l.nodes.items ++ filter_map (λ (d : Derivation). spec.node_of d.cap) (drop l.row-index l.rows) ≡ filter_map (λ (d : Derivation). spec.node_of d.cap) l.rows
