-- Each pair stands behind those of the rows before.
use Rattle.command_import.proofs.Kept.{kept_step}
use Rattle.command_import.proofs.asked.are_those_of.Goals as goal

pub loop-row-preserved : goal.loop-row-preserved
loop-row-preserved c =
    kept_step c.args.rows.now c.loop-row.row-index _ c.args.derived.now c.loop-row.rest.now c.in-Some.later.now c.loop-row-test.true c.loop-row.invariant c.in-Some.ensures
