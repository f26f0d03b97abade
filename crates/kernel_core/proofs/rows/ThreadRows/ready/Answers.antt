use Rattle.std.proofs.Common.{◌+◌, sym, subst}
use Rattle.kernel_core.specs.Private.RowsEnd.{IsRowsEnd}
use Rattle.kernel_core.proofs.Threads.RowsEnd.{ready_end}
use Rattle.kernel_core.proofs.rows.ThreadRows.ready.Goals as goal

pub invariant_of-result : goal.invariant_of-result
invariant_of-result c =
    subst (IsRowsEnd (c.args.first + c.args.threads)) (sym c.in_ok-ready_places.ensures) (ready_end c.args.first c.args.threads c.args.count c.requires)
