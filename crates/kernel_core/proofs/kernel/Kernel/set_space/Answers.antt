-- The proof of `set_space`: the goals that a search leaves open.
use Rattle.std.proofs.Common.{ap, ◌∙◌}
use Rattle.kernel_core.specs.Private.Spaces.{with_root}
use Rattle.kernel_core.proofs.Endings.Deletions.{root_placed, source_placed, invoked_placed, store_between, root_derives, space_kernel, space_shown}
use Rattle.kernel_core.proofs.kernel.Kernel.set_space.Goals as goal

pub clear_at-requires-clause-slot : goal.clear_at-requires-clause-slot
clear_at-requires-clause-slot g c = root_placed g.P.Profile.profile c.self.inside.threads.memory_bits (g.S.CapStore.memory_bits c.self.inside.store) (g.W.Waiters.memory_bits c.self.inside.threads.waiters) (g.S.CapStore.forest c.self.inside.store) c.self.inside.threads.rows (g.W.Waiters.waits c.self.inside.threads.waiters) c.self.invariant.kernel (g.met.W.Waiters.agree c.self.inside.threads.waiters) c.args.self.now c.self.view_is c.args.new c.requires

pub set_root-requires-clause-store : goal.set_root-requires-clause-store
set_root-requires-clause-store g c = store_between g.P.Profile.profile c.self.inside.threads.memory_bits (g.S.CapStore.memory_bits c.self.inside.store) (g.W.Waiters.memory_bits c.self.inside.threads.waiters) (g.S.CapStore.forest c.self.inside.store) c.self.inside.threads.rows (g.W.Waiters.waits c.self.inside.threads.waiters) c.self.invariant.kernel (g.met.W.Waiters.agree c.self.inside.threads.waiters) c.args.self.now c.self.view_is c.args.new c.requires (g.S.CapStore.memory_bits c.clear_at.new.store) (g.S.CapStore.forest c.clear_at.new.store) c.clear_at.ensures.memory c.clear_at.ensures.forest

pub set_root-requires-clause-source : goal.set_root-requires-clause-source
set_root-requires-clause-source g c = source_placed g.P.Profile.profile c.self.inside.threads.memory_bits (g.S.CapStore.memory_bits c.self.inside.store) (g.W.Waiters.memory_bits c.self.inside.threads.waiters) (g.S.CapStore.forest c.self.inside.store) c.self.inside.threads.rows (g.W.Waiters.waits c.self.inside.threads.waiters) c.self.invariant.kernel (g.met.W.Waiters.agree c.self.inside.threads.waiters) c.args.self.now c.self.view_is c.args.new c.requires (g.S.CapStore.memory_bits c.clear_at.new.store) c.clear_at.ensures.memory

pub set_root-requires-clause-invoked : goal.set_root-requires-clause-invoked
set_root-requires-clause-invoked g c = invoked_placed g.P.Profile.profile c.self.inside.threads.memory_bits (g.S.CapStore.memory_bits c.self.inside.store) (g.W.Waiters.memory_bits c.self.inside.threads.waiters) (g.S.CapStore.forest c.self.inside.store) c.self.inside.threads.rows (g.W.Waiters.waits c.self.inside.threads.waiters) c.self.invariant.kernel (g.met.W.Waiters.agree c.self.inside.threads.waiters) c.args.self.now c.self.view_is c.args.new c.requires (g.S.CapStore.memory_bits c.clear_at.new.store) c.clear_at.ensures.memory

pub set_root-requires-clause-node : goal.set_root-requires-clause-node
set_root-requires-clause-node g c = c.requires.node

pub set_root-requires-clause-derivation : goal.set_root-requires-clause-derivation
set_root-requires-clause-derivation g c = root_derives g.P.Profile.profile c.self.inside.threads.memory_bits (g.S.CapStore.memory_bits c.self.inside.store) (g.W.Waiters.memory_bits c.self.inside.threads.waiters) (g.S.CapStore.forest c.self.inside.store) c.self.inside.threads.rows (g.W.Waiters.waits c.self.inside.threads.waiters) c.self.invariant.kernel (g.met.W.Waiters.agree c.self.inside.threads.waiters) c.args.self.now c.self.view_is c.args.new c.requires (g.S.CapStore.forest c.clear_at.new.store) c.clear_at.ensures.forest

pub invariant_of-self : goal.invariant_of-self
invariant_of-self g c = space_kernel g.P.Profile.profile c.self.inside.threads.memory_bits (g.S.CapStore.memory_bits c.self.inside.store) (g.W.Waiters.memory_bits c.self.inside.threads.waiters) (g.S.CapStore.forest c.self.inside.store) c.self.inside.threads.rows (g.W.Waiters.waits c.self.inside.threads.waiters) c.self.invariant.kernel (g.met.W.Waiters.agree c.self.inside.threads.waiters) c.args.self.now c.self.view_is c.args.new c.requires (g.S.CapStore.forest c.set_root.new.store) c.clear_at.new.rest.memory_bits c.clear_at.new.rest.rows (g.W.Waiters.waits c.clear_at.new.rest.waiters) (c.set_root.ensures.forest ∙ ap (with_root c.args.new) c.clear_at.ensures.forest) c.clear_at.ensures.ended
    (g.S.CapStore.memory_bits c.set_root.new.store) (g.W.Waiters.memory_bits c.clear_at.new.rest.waiters) (c.set_root.ensures.memory ∙ c.clear_at.ensures.memory) c.clear_at.new.rest.memory c.clear_at.new.rest.fill c.self.inside.chain c.clear_at.new.chain c.clear_at.ensures.chain c.self.invariant.chain_is

pub returns-clause-after : goal.returns-clause-after
returns-clause-after g c = space_shown g.P.Profile.profile c.self.inside.threads.memory_bits (g.S.CapStore.memory_bits c.self.inside.store) (g.W.Waiters.memory_bits c.self.inside.threads.waiters) (g.S.CapStore.forest c.self.inside.store) c.self.inside.threads.rows (g.W.Waiters.waits c.self.inside.threads.waiters) c.self.invariant.kernel (g.met.W.Waiters.agree c.self.inside.threads.waiters) c.args.self.now c.self.view_is c.args.new c.requires (g.S.CapStore.forest c.set_root.new.store) c.clear_at.new.rest.memory_bits c.clear_at.new.rest.rows (g.W.Waiters.waits c.clear_at.new.rest.waiters) (c.set_root.ensures.forest ∙ ap (with_root c.args.new) c.clear_at.ensures.forest) c.clear_at.ensures.ended
