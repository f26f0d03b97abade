-- The proof of `decode_call`: the goals that a search leaves open.
use Rattle.std.proofs.Common.{◌≡◌, Some, sym, subst, ◌∙◌, rules}
use Rattle.kernel_abstract.specs.declared.call.ThreadState.TheVariants.{Ready}
use Rattle.ipc_core.specs.Waits.{IsThreadAddress}
use Rattle.kernel_core.proofs.Threads.Addresses.{row_address}
use Rattle.kernel_core.proofs.Messages.ShownMessages.{stated_row}
use Rattle.kernel_abstract.specs.Regions.{IsForest}
use Rattle.kernel_abstract.proofs.Checks.FoundSlots.{whatever}
use Rattle.kernel_core.proofs.Capabilities.ShownInvocations.{invocation_passed}
use Rattle.kernel_core.proofs.Capabilities.ShownForest.{kernel_forest}
use Rattle.kernel_core.proofs.kernel.Kernel.decode_call.Goals as goal

pub decode_op-requires-clause-thread : goal.decode_op-requires-clause-thread
decode_op-requires-clause-thread g c =
    let ready : c.thread_state.result ≡ Some Ready = search rules in
    let there = stated_row g.P.Profile.profile (g.S.CapStore.forest c.self.inside.store) c.self.inside.threads.rows (g.W.Waiters.waits c.self.inside.threads.waiters) c.args.self.now c.args.call.now.thread Ready c.self.view_is (sym c.thread_state.ensures ∙ ready) in
    subst (λ m. IsThreadAddress g.P.Profile.profile m c.args.call.now.thread) (sym c.self.invariant.kernel.store_memory_is)
    (row_address g.P.Profile.profile c.self.inside.threads.memory_bits c.self.inside.threads.rows c.args.call.now.thread c.self.invariant.kernel.rows_fill there)

pub returns-in-Ready-clause-lawful : goal.returns-in-Ready-clause-lawful
returns-in-Ready-clause-lawful g c =
    invocation_passed g.P.Profile.profile c.self.inside.threads.memory_bits (g.S.CapStore.forest c.self.inside.store) c.self.inside.threads.rows (g.W.Waiters.waits c.self.inside.threads.waiters) c.args.self.now c.args.call.now.thread c.args.call.now.op c.decode_op.result c.self.invariant.kernel.lawful c.self.view_is c.decode_op.ensures

pub returns-in-Ready-clause-forest : goal.returns-in-Ready-clause-forest
returns-in-Ready-clause-forest g c =
    whatever (IsForest g.P.Profile.profile c.args.self.now.derivations) c.decode_op.result
    (kernel_forest g.P.Profile.profile c.self.inside.threads.memory_bits (g.S.CapStore.memory_bits c.self.inside.store) (g.W.Waiters.memory_bits c.self.inside.threads.waiters) (g.S.CapStore.forest c.self.inside.store) c.self.inside.threads.rows (g.W.Waiters.waits c.self.inside.threads.waiters) c.args.self.now c.self.invariant.kernel c.self.view_is)
