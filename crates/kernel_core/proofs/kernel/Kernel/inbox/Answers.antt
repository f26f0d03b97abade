-- The proof of `inbox`: the goals that a search leaves open.
use Rattle.std.proofs.Common.{ap, sym, ◌∙◌, option_and_then}
use Rattle.kernel_core.specs.declared.rows.ThreadRow.{ThreadRow}
use Rattle.kernel_core.proofs.Messages.ShownMessages.{inbox_seen}
use Rattle.kernel_core.proofs.kernel.Kernel.inbox.Goals as goal

pub returns-in_err-row_at : goal.returns-in_err-row_at
returns-in_err-row_at g c =
    let seen = inbox_seen g.P.Profile.profile (g.S.CapStore.forest c.self.inside.store) c.self.inside.threads.rows (g.W.Waiters.waits c.self.inside.threads.waiters) c.args.self.now c.args.tcb c.row_at.result c.self.view_is (c.row_at.ensures) in
    c.from_residual.ensures ∙ sym (ap (option_and_then (λ (row : ThreadRow). row.inbox)) c.in_err-row_at.was) ∙ seen

pub returns : goal.returns
returns g c =
    let seen = inbox_seen g.P.Profile.profile (g.S.CapStore.forest c.self.inside.store) c.self.inside.threads.rows (g.W.Waiters.waits c.self.inside.threads.waiters) c.args.self.now c.args.tcb c.row_at.result c.self.view_is (c.row_at.ensures) in
    sym (ap (option_and_then (λ (row : ThreadRow). row.inbox)) c.in_ok-row_at.was) ∙ seen
