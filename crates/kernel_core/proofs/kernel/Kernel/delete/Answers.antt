-- The proof of `delete`: what its call asks is answered, and the goals that a search leaves open.
use Rattle.std.proofs.Common.{ℕ, ◌^◌, [], sym, subst, refl, ap, ◌∙◌}
use Rattle.kernel_abstract.specs.Shown.{Shown}
use Rattle.kernel_abstract.specs.Private.Invocations.{IsNamedSlot}
use Rattle.kernel_core.proofs.Capabilities.RearrangedKernel.{kernel_store}
use Rattle.kernel_core.proofs.Endings.Deletions.{deleted_kernel, deleted_shown}
use Rattle.kernel_core.proofs.kernel.Kernel.delete.Goals as goal

pub invariant_of-self : goal.invariant_of-self
invariant_of-self g c = deleted_kernel g.P.Profile.profile c.self.inside.threads.memory_bits (g.S.CapStore.memory_bits c.self.inside.store) (g.W.Waiters.memory_bits c.self.inside.threads.waiters) (g.S.CapStore.forest c.self.inside.store) c.self.inside.threads.rows (g.W.Waiters.waits c.self.inside.threads.waiters) c.self.invariant.kernel (g.met.W.Waiters.agree c.self.inside.threads.waiters) c.args.self.now c.self.view_is c.args.slot (g.S.CapStore.forest c.clear_at.new.store) c.clear_at.new.rest.memory_bits c.clear_at.new.rest.rows (g.W.Waiters.waits c.clear_at.new.rest.waiters) c.clear_at.ensures.forest c.clear_at.ensures.ended
    (g.S.CapStore.memory_bits c.clear_at.new.store) (g.W.Waiters.memory_bits c.clear_at.new.rest.waiters) c.clear_at.ensures.memory c.clear_at.new.rest.memory c.clear_at.new.rest.fill c.self.inside.chain c.clear_at.new.chain c.clear_at.ensures.chain c.self.invariant.chain_is

pub returns-clause-after : goal.returns-clause-after
returns-clause-after g c = deleted_shown g.P.Profile.profile c.self.inside.threads.memory_bits (g.S.CapStore.memory_bits c.self.inside.store) (g.W.Waiters.memory_bits c.self.inside.threads.waiters) (g.S.CapStore.forest c.self.inside.store) c.self.inside.threads.rows (g.W.Waiters.waits c.self.inside.threads.waiters) c.self.invariant.kernel (g.met.W.Waiters.agree c.self.inside.threads.waiters) c.args.self.now c.self.view_is c.args.slot (g.S.CapStore.forest c.clear_at.new.store) c.clear_at.new.rest.memory_bits c.clear_at.new.rest.rows (g.W.Waiters.waits c.clear_at.new.rest.waiters) c.clear_at.ensures.forest c.clear_at.ensures.ended

pub clear_at-requires-clause-store : goal.clear_at-requires-clause-store
clear_at-requires-clause-store g c = kernel_store g.P.Profile.profile c.self.inside.threads.memory_bits (g.S.CapStore.memory_bits c.self.inside.store) (g.W.Waiters.memory_bits c.self.inside.threads.waiters) (g.S.CapStore.forest c.self.inside.store) c.self.inside.threads.rows (g.W.Waiters.waits c.self.inside.threads.waiters) c.self.invariant.kernel

pub clear_at-requires-clause-slot : goal.clear_at-requires-clause-slot
clear_at-requires-clause-slot g c = subst (λ (u : Shown). IsNamedSlot g.P.Profile.profile u.derivations c.args.slot) (sym c.self.view_is) c.requires (g.S.CapStore.memory_bits c.self.inside.store) (kernel_store g.P.Profile.profile c.self.inside.threads.memory_bits (g.S.CapStore.memory_bits c.self.inside.store) (g.W.Waiters.memory_bits c.self.inside.threads.waiters) (g.S.CapStore.forest c.self.inside.store) c.self.inside.threads.rows (g.W.Waiters.waits c.self.inside.threads.waiters) c.self.invariant.kernel).lawful

pub clear_at-requires-clause-chain : goal.clear_at-requires-clause-chain
clear_at-requires-clause-chain g c = c.self.invariant.chain_is ∙ ap (λ (n : ℕ). ([], 2 ^ n)) (sym c.self.invariant.kernel.store_memory_is)

pub returns-clause-reply : goal.returns-clause-reply
returns-clause-reply g c = refl
