use Rattle.std.proofs.Common.{◌≡◌, ◌++◌, drop, string_bytes}
use Rattle.setup_report.specs.Naming.{naming_view}
use Rattle.command_trace.specs.Ways.{nodes_from}
use Rattle.command_trace.proofs.ways.add_nodes.Given as goal

abbrev pub invariant-loop-next : goal.invariant-loop-next
invariant-loop-next l =
    string_bytes l.out ++ nodes_from (naming_view l.naming) l.node l.left (drop l.next-index l.slots)
    ≡ string_bytes l.initial.out ++ nodes_from (naming_view l.naming) l.initial.node l.initial.left l.slots
