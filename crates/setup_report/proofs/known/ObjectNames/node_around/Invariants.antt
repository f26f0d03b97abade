use Rattle.std.proofs.Common.{◌≡◌, drop}
use Rattle.std.specs.Prelude.{find}
use Rattle.setup_report.specs.Naming as spec
use Rattle.setup_report.proofs.known.ObjectNames.node_around.Given as goal

abbrev pub invariant-loop-node : goal.invariant-loop-node
invariant-loop-node l = find (spec.lies_in_node l.self.slot_bits l.slot) (drop l.node-index l.nodes) ≡ find (spec.lies_in_node l.self.slot_bits l.slot) l.nodes
