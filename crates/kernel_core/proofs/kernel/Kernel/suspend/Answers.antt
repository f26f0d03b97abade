-- The proof of `suspend`: the goals that a search leaves open.
use Rattle.std.proofs.Common.{true}
use Rattle.kernel_core.proofs.Endings.StoppedKernel.{stopped_kernel, stopped_shown}
use Rattle.kernel_core.proofs.kernel.Kernel.suspend.Goals as goal

pub invariant_of-self : goal.invariant_of-self
invariant_of-self g c = stopped_kernel g.P.Profile.profile c.self.inside.threads.memory_bits (g.S.CapStore.memory_bits c.self.inside.store) (g.W.Waiters.memory_bits c.self.inside.threads.waiters) (g.S.CapStore.forest c.self.inside.store) c.self.inside.threads.rows (g.W.Waiters.waits c.self.inside.threads.waiters) c.self.invariant.kernel c.args.self.now c.self.view_is c.args.thread c.requires true c.stop.new.self.memory_bits c.stop.new.self.rows (g.W.Waiters.waits c.stop.new.self.waiters) c.stop.ensures.rows c.stop.ensures.waits
    (g.W.Waiters.memory_bits c.stop.new.self.waiters) c.stop.ensures.memory c.stop.new.self.memory c.stop.new.self.fill c.self.inside.chain c.self.invariant.chain_is

pub returns-clause-after : goal.returns-clause-after
returns-clause-after g c = stopped_shown g.P.Profile.profile c.self.inside.threads.memory_bits (g.S.CapStore.memory_bits c.self.inside.store) (g.W.Waiters.memory_bits c.self.inside.threads.waiters) (g.S.CapStore.forest c.self.inside.store) c.self.inside.threads.rows (g.W.Waiters.waits c.self.inside.threads.waiters) c.self.invariant.kernel c.args.self.now c.self.view_is c.args.thread c.requires true c.stop.new.self.memory_bits c.stop.new.self.rows (g.W.Waiters.waits c.stop.new.self.waiters) c.stop.ensures.rows c.stop.ensures.waits
