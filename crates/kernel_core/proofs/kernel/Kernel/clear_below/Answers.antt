-- The proof of `clear_below`: the goals that a search leaves open.
use Rattle.std.proofs.Common.{ℕ, sym, ap, subst, ◌∙◌}
use Rattle.kernel_forest.specs.Entries.{is_full}
use Rattle.kernel_abstract.specs.Shown.{Shown}
use Rattle.kernel_abstract.specs.Memory.{IsSlotAddress}
use Rattle.kernel_core.proofs.Endings.Deletions.{full_placed, revoked_kernel, revoked_shown}
use Rattle.kernel_core.proofs.kernel.Kernel.clear_below.Goals as goal

pub revoke_at-requires-clause-slot : goal.revoke_at-requires-clause-slot
revoke_at-requires-clause-slot g c =
    let p = g.P.Profile.profile in
    let kernel = c.self.invariant.kernel in
    subst (λ (memory : ℕ). IsSlotAddress p memory c.args.slot) (sym kernel.store_memory_is)
    (full_placed p c.self.inside.threads.memory_bits c.args.slot (g.S.CapStore.forest c.self.inside.store) kernel.slots_placed
    (ap (λ (v : Shown). is_full c.args.slot v.derivations) c.self.view_is ∙ c.requires))

pub invariant_of-self : goal.invariant_of-self
invariant_of-self g c = revoked_kernel g.P.Profile.profile c.self.inside.threads.memory_bits (g.S.CapStore.memory_bits c.self.inside.store) (g.W.Waiters.memory_bits c.self.inside.threads.waiters) (g.S.CapStore.forest c.self.inside.store) c.self.inside.threads.rows (g.W.Waiters.waits c.self.inside.threads.waiters) c.self.invariant.kernel (g.met.W.Waiters.agree c.self.inside.threads.waiters) c.args.self.now c.self.view_is c.args.slot (g.S.CapStore.forest c.revoke_at.new.store) c.revoke_at.new.rest.memory_bits c.revoke_at.new.rest.rows (g.W.Waiters.waits c.revoke_at.new.rest.waiters) c.revoke_at.ensures.forest c.revoke_at.ensures.ended
    (g.S.CapStore.memory_bits c.revoke_at.new.store) (g.W.Waiters.memory_bits c.revoke_at.new.rest.waiters) c.revoke_at.ensures.memory c.revoke_at.new.rest.memory c.revoke_at.new.rest.fill c.self.inside.chain c.revoke_at.new.chain c.revoke_at.ensures.chain c.self.invariant.chain_is

pub returns : goal.returns
returns g c = revoked_shown g.P.Profile.profile c.self.inside.threads.memory_bits (g.S.CapStore.memory_bits c.self.inside.store) (g.W.Waiters.memory_bits c.self.inside.threads.waiters) (g.S.CapStore.forest c.self.inside.store) c.self.inside.threads.rows (g.W.Waiters.waits c.self.inside.threads.waiters) c.self.invariant.kernel (g.met.W.Waiters.agree c.self.inside.threads.waiters) c.args.self.now c.self.view_is c.args.slot (g.S.CapStore.forest c.revoke_at.new.store) c.revoke_at.new.rest.memory_bits c.revoke_at.new.rest.rows (g.W.Waiters.waits c.revoke_at.new.rest.waiters) c.revoke_at.ensures.forest c.revoke_at.ensures.ended
