use Rattle.std.proofs.Common.{sym, ap, subst, ◌∙◌}
use Rattle.ipc_core.specs.Representation.Rows.{waits_of, next_by}
use Rattle.ipc_core.specs.Waits.{IsNextBehind}
use Rattle.ipc_core.proofs.RowForm.Behind.{rows_behind, nobody_behind}
use Rattle.ipc_core.proofs.rows.RowWaitersWaiters.next_waiting.Goals as goal

pub returns-clause-behind : goal.returns-clause-behind
returns-clause-behind g c =
    let own = c.args.self.now in
    subst (IsNextBehind (waits_of own.rows.items) c.args.thread) (sym (c.next_waiting.ensures ∙ ap (next_by c.args.thread) c.deref.ensures.value)) (rows_behind own.rows.items c.args.thread own.distinct)

pub returns-clause-nowhere : goal.returns-clause-nowhere
returns-clause-nowhere g c = λ free. c.next_waiting.ensures ∙ ap (next_by c.args.thread) c.deref.ensures.value ∙ nobody_behind c.args.self.now.rows.items c.args.thread free
