use Rattle.setup_report.specs.Naming.{naming_view}
use Rattle.command_trace.specs.Lines.{line_at, selfheld_at}
use Rattle.command_trace.proofs.Listed.{told_next}
use Rattle.command_trace.proofs.lines.slots.selfheld_lines.Goals as goal

pub loop-node-preserved : goal.loop-node-preserved
loop-node-preserved c =
    told_next (line_at (selfheld_at (naming_view c.args.naming.now))) c.args.nodes.now c.loop-node.node-index 0 _ _ c.loop-node-test.true c.loop-node.invariant c.in_ok-add_selfheld.ensures
