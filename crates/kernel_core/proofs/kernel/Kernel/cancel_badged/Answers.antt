-- The proof of `cancel_badged`: the goals that a search leaves open.
use Rattle.std.proofs.Common.{sym, ◌∙◌}
use Rattle.kernel_core.proofs.Endings.StoppedKernel.{endpoint_placed, released_kernel, released_shown, unequal}
use Rattle.kernel_core.proofs.kernel.Kernel.cancel_badged.Goals as goal

pub cancel_badge-requires : goal.cancel_badge-requires
cancel_badge-requires g c = endpoint_placed g.P.Profile.profile c.self.inside.threads.memory_bits (g.S.CapStore.memory_bits c.self.inside.store) (g.W.Waiters.memory_bits c.self.inside.threads.waiters) (g.S.CapStore.forest c.self.inside.store) c.self.inside.threads.rows (g.W.Waiters.waits c.self.inside.threads.waiters) c.self.invariant.kernel c.args.self.now c.self.view_is c.args.service.endpoint c.args.service.badge c.requires

pub invariant_of-self : goal.invariant_of-self
invariant_of-self g c = released_kernel g.P.Profile.profile c.self.inside.threads.memory_bits (g.S.CapStore.memory_bits c.self.inside.store) (g.W.Waiters.memory_bits c.self.inside.threads.waiters) (g.S.CapStore.forest c.self.inside.store) c.self.inside.threads.rows (g.W.Waiters.waits c.self.inside.threads.waiters) c.self.invariant.kernel c.args.self.now c.self.view_is c.args.service.endpoint c.args.service.badge c.requires (g.W.Waiters.waits c.cancel_badge.new.self) c.cancel_badge.ensures.waits (g.W.Waiters.memory_bits c.cancel_badge.new.self) c.cancel_badge.ensures.memory c.self.inside.chain c.self.invariant.chain_is

pub returns-then-ne-clause-after : goal.returns-then-ne-clause-after
returns-then-ne-clause-after g c = released_shown g.P.Profile.profile c.self.inside.threads.memory_bits (g.S.CapStore.memory_bits c.self.inside.store) (g.W.Waiters.memory_bits c.self.inside.threads.waiters) (g.S.CapStore.forest c.self.inside.store) c.self.inside.threads.rows (g.W.Waiters.waits c.self.inside.threads.waiters) c.self.invariant.kernel c.args.self.now c.self.view_is c.args.service.endpoint c.args.service.badge c.requires (g.W.Waiters.waits c.cancel_badge.new.self) c.cancel_badge.ensures.waits (unequal _ (sym c.ne.ensures ∙ c.if-ne.true))
