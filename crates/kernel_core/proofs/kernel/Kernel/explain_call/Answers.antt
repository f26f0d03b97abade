-- The proof of `explain_call`: the goals that a search leaves open.
use Rattle.std.proofs.Common.{◌≡◌, Some, sym, subst, ◌∙◌, rules}
use Rattle.kernel_abstract.specs.declared.call.ThreadState.TheVariants.{Ready}
use Rattle.ipc_core.specs.Waits.{IsThreadAddress}
use Rattle.kernel_core.proofs.Threads.Addresses.{row_address}
use Rattle.kernel_core.proofs.Messages.ShownMessages.{stated_row}
use Rattle.kernel_core.proofs.kernel.Kernel.explain_call.Goals as goal

pub reason_op-requires-clause-thread : goal.reason_op-requires-clause-thread
reason_op-requires-clause-thread g c =
    let ready : c.thread_state.result ≡ Some Ready = search rules in
    let there = stated_row g.P.Profile.profile (g.S.CapStore.forest c.self.inside.store) c.self.inside.threads.rows (g.W.Waiters.waits c.self.inside.threads.waiters) c.args.self.now c.args.call.now.thread Ready c.self.view_is (sym c.thread_state.ensures ∙ ready) in
    subst (λ m. IsThreadAddress g.P.Profile.profile m c.args.call.now.thread) (sym c.self.invariant.kernel.store_memory_is)
    (row_address g.P.Profile.profile c.self.inside.threads.memory_bits c.self.inside.threads.rows c.args.call.now.thread c.self.invariant.kernel.rows_fill there)
