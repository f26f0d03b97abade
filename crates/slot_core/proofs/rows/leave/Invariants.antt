use Rattle.std.proofs.Common.{◌≡◌, reverse}
use Rattle.kernel_forest.proofs.Trees.Parented.{still_above}
use Rattle.slot_core.specs.Rows.{is_deeper}
use Rattle.slot_core.proofs.rows.leave.Given as goal

abbrev pub invariant-loop-top : goal.invariant-loop-top
invariant-loop-top l = still_above is_deeper l.row (reverse l.above.items) ≡ still_above is_deeper l.row (reverse l.initial.above.items)

abbrev pub decreases-loop-top : goal.decreases-loop-top
decreases-loop-top l = goal.left-loop-top l
