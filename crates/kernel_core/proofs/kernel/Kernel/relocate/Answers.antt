-- The proof of `relocate`: what its call asks is answered, and the goals that a search leaves open.
use Rattle.std.proofs.Common.{sym, subst, refl}
use Rattle.kernel_abstract.specs.Shown.{Shown}
use Rattle.kernel_abstract.specs.Private.Invocations.{IsMove}
use Rattle.kernel_core.proofs.Capabilities.RearrangedKernel.{kernel_store, moved_kernel, moved_shown}
use Rattle.kernel_core.proofs.kernel.Kernel.relocate.Goals as goal

pub invariant_of-self : goal.invariant_of-self
invariant_of-self g c = record { kernel = moved_kernel g.P.Profile.profile c.self.inside.threads.memory_bits (g.S.CapStore.memory_bits c.self.inside.store) (g.W.Waiters.memory_bits c.self.inside.threads.waiters) (g.S.CapStore.forest c.self.inside.store) c.self.inside.threads.rows (g.W.Waiters.waits c.self.inside.threads.waiters) c.self.invariant.kernel c.args.placement c.args.self.now c.self.view_is c.requires (g.S.CapStore.memory_bits c.move_in.new.store) (g.S.CapStore.forest c.move_in.new.store) c.move_in.ensures.memory c.move_in.ensures.forest; chain_is = c.self.invariant.chain_is }

pub returns-clause-after : goal.returns-clause-after
returns-clause-after g c = moved_shown g.P.Profile.profile c.self.inside.threads.memory_bits (g.S.CapStore.memory_bits c.self.inside.store) (g.W.Waiters.memory_bits c.self.inside.threads.waiters) (g.S.CapStore.forest c.self.inside.store) c.self.inside.threads.rows (g.W.Waiters.waits c.self.inside.threads.waiters) c.self.invariant.kernel c.args.placement c.args.self.now c.self.view_is (g.S.CapStore.forest c.move_in.new.store) c.move_in.ensures.forest

pub move_in-requires-clause-store : goal.move_in-requires-clause-store
move_in-requires-clause-store g c = kernel_store g.P.Profile.profile c.self.inside.threads.memory_bits (g.S.CapStore.memory_bits c.self.inside.store) (g.W.Waiters.memory_bits c.self.inside.threads.waiters) (g.S.CapStore.forest c.self.inside.store) c.self.inside.threads.rows (g.W.Waiters.waits c.self.inside.threads.waiters) c.self.invariant.kernel

pub move_in-requires-clause-moved : goal.move_in-requires-clause-moved
move_in-requires-clause-moved g c = subst (λ (u : Shown). IsMove g.P.Profile.profile u.derivations c.args.placement) (sym c.self.view_is) c.requires

pub returns-clause-reply : goal.returns-clause-reply
returns-clause-reply g c = refl
