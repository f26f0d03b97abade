use Rattle.std.proofs.Common.{sym, ap, subst, ◌∙◌}
use Rattle.ipc_core.specs.declared.tables.QueueRow.{QueueRow}
use Rattle.ipc_core.specs.Representation.Linked.{waits_in}
use Rattle.ipc_core.specs.Waits.{IsNextBehind}
use Rattle.ipc_core.proofs.QueueForm.QueueReads.{queue_behind, free_behind}
use Rattle.ipc_core.proofs.tables.Tables.next_waiting.Goals as goal

pub returns-in-Some-clause-behind : goal.returns-in-Some-clause-behind
returns-in-Some-clause-behind g c =
    let p = g.P.Profile.profile in
    let own = c.args.self.now in
    subst (λ (row : QueueRow). IsNextBehind (waits_in p own) c.args.thread row.next) (sym c.thread-row.ensures)
    (queue_behind p own c.requires.linked 0 c.args.thread)

pub returns-in-None-clause-behind : goal.returns-in-None-clause-behind
returns-in-None-clause-behind g c =
    let p = g.P.Profile.profile in
    let own = c.args.self.now in
    free_behind p own c.requires.linked 0 c.args.thread (sym (ap (λ (row : QueueRow). row.role) c.thread-row.ensures) ∙ c.in-None.is)
