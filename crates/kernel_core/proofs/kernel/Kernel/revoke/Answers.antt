-- The proof of `revoke`: what its call asks is answered, and the goals that a search leaves open.
use Rattle.std.proofs.Common.{ℕ, ◌^◌, [], sym, subst, refl, ap, ◌∙◌}
use Rattle.kernel_abstract.specs.Shown.{Shown}
use Rattle.kernel_abstract.specs.Private.Invocations.{IsNamedSlot}
use Rattle.kernel_core.proofs.Capabilities.RearrangedKernel.{kernel_store}
use Rattle.kernel_core.proofs.Endings.Deletions.{revoked_kernel, revoked_shown}
use Rattle.kernel_core.proofs.kernel.Kernel.revoke.Goals as goal

pub invariant_of-self : goal.invariant_of-self
invariant_of-self g c = revoked_kernel g.P.Profile.profile c.self.inside.threads.memory_bits (g.S.CapStore.memory_bits c.self.inside.store) (g.W.Waiters.memory_bits c.self.inside.threads.waiters) (g.S.CapStore.forest c.self.inside.store) c.self.inside.threads.rows (g.W.Waiters.waits c.self.inside.threads.waiters) c.self.invariant.kernel (g.met.W.Waiters.agree c.self.inside.threads.waiters) c.args.self.now c.self.view_is c.args.slot (g.S.CapStore.forest c.revoke_at.new.store) c.revoke_at.new.rest.memory_bits c.revoke_at.new.rest.rows (g.W.Waiters.waits c.revoke_at.new.rest.waiters) c.revoke_at.ensures.forest c.revoke_at.ensures.ended
    (g.S.CapStore.memory_bits c.revoke_at.new.store) (g.W.Waiters.memory_bits c.revoke_at.new.rest.waiters) c.revoke_at.ensures.memory c.revoke_at.new.rest.memory c.revoke_at.new.rest.fill c.self.inside.chain c.revoke_at.new.chain c.revoke_at.ensures.chain c.self.invariant.chain_is

pub returns-clause-after : goal.returns-clause-after
returns-clause-after g c = revoked_shown g.P.Profile.profile c.self.inside.threads.memory_bits (g.S.CapStore.memory_bits c.self.inside.store) (g.W.Waiters.memory_bits c.self.inside.threads.waiters) (g.S.CapStore.forest c.self.inside.store) c.self.inside.threads.rows (g.W.Waiters.waits c.self.inside.threads.waiters) c.self.invariant.kernel (g.met.W.Waiters.agree c.self.inside.threads.waiters) c.args.self.now c.self.view_is c.args.slot (g.S.CapStore.forest c.revoke_at.new.store) c.revoke_at.new.rest.memory_bits c.revoke_at.new.rest.rows (g.W.Waiters.waits c.revoke_at.new.rest.waiters) c.revoke_at.ensures.forest c.revoke_at.ensures.ended

pub revoke_at-requires-clause-store : goal.revoke_at-requires-clause-store
revoke_at-requires-clause-store g c = kernel_store g.P.Profile.profile c.self.inside.threads.memory_bits (g.S.CapStore.memory_bits c.self.inside.store) (g.W.Waiters.memory_bits c.self.inside.threads.waiters) (g.S.CapStore.forest c.self.inside.store) c.self.inside.threads.rows (g.W.Waiters.waits c.self.inside.threads.waiters) c.self.invariant.kernel

pub revoke_at-requires-clause-slot : goal.revoke_at-requires-clause-slot
revoke_at-requires-clause-slot g c = subst (λ (u : Shown). IsNamedSlot g.P.Profile.profile u.derivations c.args.slot) (sym c.self.view_is) c.requires (g.S.CapStore.memory_bits c.self.inside.store) (kernel_store g.P.Profile.profile c.self.inside.threads.memory_bits (g.S.CapStore.memory_bits c.self.inside.store) (g.W.Waiters.memory_bits c.self.inside.threads.waiters) (g.S.CapStore.forest c.self.inside.store) c.self.inside.threads.rows (g.W.Waiters.waits c.self.inside.threads.waiters) c.self.invariant.kernel).lawful

pub revoke_at-requires-clause-chain : goal.revoke_at-requires-clause-chain
revoke_at-requires-clause-chain g c = c.self.invariant.chain_is ∙ ap (λ (n : ℕ). ([], 2 ^ n)) (sym c.self.invariant.kernel.store_memory_is)

pub returns-clause-reply : goal.returns-clause-reply
returns-clause-reply g c = refl
