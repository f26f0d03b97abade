-- The proof of `thread_state`: the goals that a search leaves open.
use Rattle.std.proofs.Common.{◌≡◌, Some, IsSome, ap, sym, subst, refl, ◌∙◌, option_map}
use Rattle.kernel_core.specs.declared.rows.ThreadRow.{ThreadRow}
use Rattle.kernel_core.specs.Rows.{state_with}
use Rattle.ipc_core.specs.Waits.{IsThreadAddress}
use Rattle.kernel_core.proofs.Threads.Addresses.{row_address}
use Rattle.kernel_core.proofs.Messages.ShownMessages.{state_seen}
use Rattle.kernel_core.proofs.kernel.Kernel.thread_state.Goals as goal

pub returns-in_err-row : goal.returns-in_err-row
returns-in_err-row g c =
    let seen = state_seen g.P.Profile.profile (g.S.CapStore.forest c.self.inside.store) c.self.inside.threads.rows (g.W.Waiters.waits c.self.inside.threads.waiters) c.args.self.now c.args.tcb c.row_at.result c.self.view_is (c.row_at.ensures) in
    c.from_residual.ensures ∙ sym (ap (option_map (λ (row : ThreadRow). state_with ((g.W.Waiters.waits c.self.inside.threads.waiters).role c.args.tcb) row.inactive)) c.in_err-row.was) ∙ seen

pub role-requires : goal.role-requires
role-requires g c =
    let found : c.row_at.result ≡ Some c.in_ok-row.row = c.in_ok-row.was in
    let there = subst IsSome (sym found ∙ c.row_at.ensures) refl in
    subst (λ m. IsThreadAddress g.P.Profile.profile m c.args.tcb) (sym c.self.invariant.kernel.waiters_memory_is)
    (row_address g.P.Profile.profile c.self.inside.threads.memory_bits c.self.inside.threads.rows c.args.tcb c.self.invariant.kernel.rows_fill there)

pub returns : goal.returns
returns g c =
    let seen = state_seen g.P.Profile.profile (g.S.CapStore.forest c.self.inside.store) c.self.inside.threads.rows (g.W.Waiters.waits c.self.inside.threads.waiters) c.args.self.now c.args.tcb c.row_at.result c.self.view_is (c.row_at.ensures) in
    ap Some (c.state.ensures ∙ ap (λ r. state_with r c.in_ok-row.row.inactive) c.role.ensures)
    ∙ sym (ap (option_map (λ (row : ThreadRow). state_with ((g.W.Waiters.waits c.self.inside.threads.waiters).role c.args.tcb) row.inactive)) c.in_ok-row.was)
    ∙ seen
