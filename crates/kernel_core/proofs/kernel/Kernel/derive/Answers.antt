-- The proof of `derive`: what its call asks is answered, and the goals that a search leaves open.
use Rattle.std.proofs.Common.{sym, subst, refl}
use Rattle.kernel_abstract.specs.Shown.{Shown}
use Rattle.kernel_abstract.specs.Private.Invocations.{IsDerivation}
use Rattle.kernel_core.proofs.Capabilities.RearrangedKernel.{kernel_store, derived_kernel, derived_shown}
use Rattle.kernel_core.proofs.kernel.Kernel.derive.Goals as goal

pub invariant_of-self : goal.invariant_of-self
invariant_of-self g c = record { kernel = derived_kernel g.P.Profile.profile c.self.inside.threads.memory_bits (g.S.CapStore.memory_bits c.self.inside.store) (g.W.Waiters.memory_bits c.self.inside.threads.waiters) (g.S.CapStore.forest c.self.inside.store) c.self.inside.threads.rows (g.W.Waiters.waits c.self.inside.threads.waiters) c.self.invariant.kernel c.args.placement c.args.self.now c.self.view_is c.requires (g.S.CapStore.memory_bits c.derive_in.new.store) (g.S.CapStore.forest c.derive_in.new.store) c.derive_in.ensures.memory c.derive_in.ensures.forest; chain_is = c.self.invariant.chain_is }

pub returns-clause-after : goal.returns-clause-after
returns-clause-after g c = derived_shown g.P.Profile.profile c.self.inside.threads.memory_bits (g.S.CapStore.memory_bits c.self.inside.store) (g.W.Waiters.memory_bits c.self.inside.threads.waiters) (g.S.CapStore.forest c.self.inside.store) c.self.inside.threads.rows (g.W.Waiters.waits c.self.inside.threads.waiters) c.self.invariant.kernel c.args.placement c.args.self.now c.self.view_is (g.S.CapStore.forest c.derive_in.new.store) c.derive_in.ensures.forest

pub derive_in-requires-clause-store : goal.derive_in-requires-clause-store
derive_in-requires-clause-store g c = kernel_store g.P.Profile.profile c.self.inside.threads.memory_bits (g.S.CapStore.memory_bits c.self.inside.store) (g.W.Waiters.memory_bits c.self.inside.threads.waiters) (g.S.CapStore.forest c.self.inside.store) c.self.inside.threads.rows (g.W.Waiters.waits c.self.inside.threads.waiters) c.self.invariant.kernel

pub derive_in-requires-clause-derivation : goal.derive_in-requires-clause-derivation
derive_in-requires-clause-derivation g c = subst (λ (u : Shown). IsDerivation g.P.Profile.profile u.derivations c.args.placement) (sym c.self.view_is) c.requires

pub returns-clause-reply : goal.returns-clause-reply
returns-clause-reply g c = refl
