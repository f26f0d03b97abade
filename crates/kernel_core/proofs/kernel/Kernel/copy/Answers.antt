-- The proof of `copy`: the goal that a search leaves open.
use Rattle.std.proofs.Common.{◌∙◌}
use Rattle.kernel_core.proofs.Booted.BootedParts.{copied_kernel}
use Rattle.kernel_core.proofs.kernel.Kernel.copy.Goals as goal

pub invariant_of-result-2 : goal.invariant_of-result-2
invariant_of-result-2 g c =
    copied_kernel g.P.Profile.profile c.self.inside.threads.memory_bits (g.S.CapStore.memory_bits c.self.inside.store) (g.W.Waiters.memory_bits c.self.inside.threads.waiters) (g.S.CapStore.memory_bits c.in_ok-store.store) (g.W.Waiters.memory_bits c.in_ok-waiters.waiters) c.SLOT_BITS.result
    (g.S.CapStore.forest c.self.inside.store) (g.S.CapStore.forest c.in_ok-store.store) c.self.inside.threads.rows c.in_ok-rows.rows (g.W.Waiters.waits c.self.inside.threads.waiters) (g.W.Waiters.waits c.in_ok-waiters.waiters) c.in_ok-chain.chain
    c.self.invariant.kernel c.in_ok-store.ensures.memory c.in_ok-waiters.ensures.memory c.in_ok-store.ensures.forest c.in_ok-rows.ensures c.in_ok-waiters.ensures.waits
    (c.SLOT_BITS.ensures ∙ g.met.P.Profile.slot_bits_is) c.in_ok-chain.ensures
