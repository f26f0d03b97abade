-- The proof of `next_waiting`: the goals that a search leaves open.
use Rattle.std.proofs.Common.{IsSome, sym, subst, refl, ◌∙◌}
use Rattle.kernel_abstract.specs.Waiting.{IsNextWaiting}
use Rattle.ipc_core.specs.Waits.{IsThreadAddress}
use Rattle.kernel_core.proofs.Threads.Addresses.{row_address}
use Rattle.kernel_core.proofs.Messages.ShownWaiting.{next_shown, none_next}
use Rattle.kernel_core.proofs.kernel.Kernel.next_waiting.Goals as goal

pub returns-in_err-row_at : goal.returns-in_err-row_at
returns-in_err-row_at g c =
    let row = c.row_at.ensures in
    subst (IsNextWaiting c.args.self.now c.args.tcb) (sym c.from_residual.ensures)
    (none_next g.P.Profile.profile c.self.inside.threads.memory_bits (g.S.CapStore.memory_bits c.self.inside.store) (g.W.Waiters.memory_bits c.self.inside.threads.waiters) (g.S.CapStore.forest c.self.inside.store) c.self.inside.threads.rows (g.W.Waiters.waits c.self.inside.threads.waiters) c.self.invariant.kernel (g.met.W.Waiters.agree c.self.inside.threads.waiters) c.args.self.now c.self.view_is
    c.args.tcb (sym row ∙ c.in_err-row_at.was))

pub next_waiting-requires : goal.next_waiting-requires
next_waiting-requires g c =
    let there = subst IsSome (sym c.in_ok-row_at.was ∙ c.row_at.ensures) refl in
    subst (λ m. IsThreadAddress g.P.Profile.profile m c.args.tcb) (sym c.self.invariant.kernel.waiters_memory_is)
    (row_address g.P.Profile.profile c.self.inside.threads.memory_bits c.self.inside.threads.rows c.args.tcb c.self.invariant.kernel.rows_fill there)

pub returns : goal.returns
returns g c =
    next_shown g.P.Profile.profile c.self.inside.threads.memory_bits (g.S.CapStore.memory_bits c.self.inside.store) (g.W.Waiters.memory_bits c.self.inside.threads.waiters) (g.S.CapStore.forest c.self.inside.store) c.self.inside.threads.rows (g.W.Waiters.waits c.self.inside.threads.waiters) c.self.invariant.kernel (g.met.W.Waiters.agree c.self.inside.threads.waiters) c.args.self.now c.self.view_is
    c.args.tcb c.next_waiting.result c.next_waiting.ensures.behind c.next_waiting.ensures.nowhere
