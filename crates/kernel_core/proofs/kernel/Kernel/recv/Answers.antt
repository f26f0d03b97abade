-- The proof of `recv`: the goals that a search leaves open.
use Rattle.std.proofs.Common.{sym, ◌∙◌}
use Rattle.kernel_core.proofs.Messages.PartsAfter.{endpoint_stands, thread_stands, thread_there, waits_nowhere, receives_reply, receives_kernel, receives_shown, receive_waits_reply, receive_waits_kernel, receive_waits_shown, receive_empty_reply, receive_empty_kernel, receive_empty_shown}
use Rattle.kernel_core.proofs.kernel.Kernel.recv.Goals as goal

pub recv-requires-clause-endpoint : goal.recv-requires-clause-endpoint
recv-requires-clause-endpoint g c = endpoint_stands g.P.Profile.profile c.self.inside.threads.memory_bits (g.S.CapStore.memory_bits c.self.inside.store) (g.W.Waiters.memory_bits c.self.inside.threads.waiters) (g.S.CapStore.forest c.self.inside.store) c.self.inside.threads.rows (g.W.Waiters.waits c.self.inside.threads.waiters) c.self.invariant.kernel c.args.self.now c.self.view_is c.args.thread c.args.service c.requires.live c.requires.ready

pub recv-requires-clause-thread : goal.recv-requires-clause-thread
recv-requires-clause-thread g c = thread_stands g.P.Profile.profile c.self.inside.threads.memory_bits (g.S.CapStore.memory_bits c.self.inside.store) (g.W.Waiters.memory_bits c.self.inside.threads.waiters) (g.S.CapStore.forest c.self.inside.store) c.self.inside.threads.rows (g.W.Waiters.waits c.self.inside.threads.waiters) c.self.invariant.kernel c.args.self.now c.self.view_is c.args.thread c.args.service c.requires.live c.requires.ready

pub recv-requires-clause-free : goal.recv-requires-clause-free
recv-requires-clause-free g c = waits_nowhere g.P.Profile.profile c.self.inside.threads.memory_bits (g.S.CapStore.memory_bits c.self.inside.store) (g.W.Waiters.memory_bits c.self.inside.threads.waiters) (g.S.CapStore.forest c.self.inside.store) c.self.inside.threads.rows (g.W.Waiters.waits c.self.inside.threads.waiters) c.self.invariant.kernel c.args.self.now c.self.view_is c.args.thread c.args.service c.requires.live c.requires.ready

pub set_row-requires : goal.set_row-requires
set_row-requires g c = thread_there g.P.Profile.profile c.self.inside.threads.memory_bits (g.S.CapStore.memory_bits c.self.inside.store) (g.W.Waiters.memory_bits c.self.inside.threads.waiters) (g.S.CapStore.forest c.self.inside.store) c.self.inside.threads.rows (g.W.Waiters.waits c.self.inside.threads.waiters) c.self.invariant.kernel c.args.self.now c.self.view_is c.args.thread c.args.service c.requires.live c.requires.ready

pub invariant_of-self : goal.invariant_of-self
invariant_of-self g c = record { kernel = receives_kernel g.P.Profile.profile c.self.inside.threads.memory_bits (g.S.CapStore.memory_bits c.self.inside.store) (g.W.Waiters.memory_bits c.self.inside.threads.waiters) (g.S.CapStore.forest c.self.inside.store) c.self.inside.threads.rows (g.W.Waiters.waits c.self.inside.threads.waiters) c.self.invariant.kernel c.args.self.now c.self.view_is c.args.thread c.args.service c.requires.live c.requires.ready (g.W.Waiters.waits c.recv.new.self) (g.W.Waiters.memory_bits c.recv.new.self) c.recv.ensures.memory c.args.block c.recv.ensures.waits c.in-Delivered.from c.in-Delivered.badge c.in-Delivered.message (sym c.in-Delivered.is ∙ c.recv.ensures.answer) c.set_row.new.self c.set_row.ensures.map c.set_row.ensures.length; chain_is = c.self.invariant.chain_is }

pub invariant_of-self-in-Waiting : goal.invariant_of-self-in-Waiting
invariant_of-self-in-Waiting g c = record { kernel = receive_waits_kernel g.P.Profile.profile c.self.inside.threads.memory_bits (g.S.CapStore.memory_bits c.self.inside.store) (g.W.Waiters.memory_bits c.self.inside.threads.waiters) (g.S.CapStore.forest c.self.inside.store) c.self.inside.threads.rows (g.W.Waiters.waits c.self.inside.threads.waiters) c.self.invariant.kernel c.args.self.now c.self.view_is c.args.thread c.args.service c.requires.live c.requires.ready (g.W.Waiters.waits c.recv.new.self) (g.W.Waiters.memory_bits c.recv.new.self) c.recv.ensures.memory c.args.block c.recv.ensures.waits (sym c.in-Waiting.is ∙ c.recv.ensures.answer); chain_is = c.self.invariant.chain_is }

pub returns-in-Delivered-clause-reply : goal.returns-in-Delivered-clause-reply
returns-in-Delivered-clause-reply g c = receives_reply g.P.Profile.profile c.self.inside.threads.memory_bits (g.S.CapStore.memory_bits c.self.inside.store) (g.W.Waiters.memory_bits c.self.inside.threads.waiters) (g.S.CapStore.forest c.self.inside.store) c.self.inside.threads.rows (g.W.Waiters.waits c.self.inside.threads.waiters) c.self.invariant.kernel c.args.self.now c.self.view_is c.args.thread c.args.service c.requires.live c.requires.ready (g.W.Waiters.waits c.recv.new.self) (g.W.Waiters.memory_bits c.recv.new.self) c.recv.ensures.memory c.args.block c.recv.ensures.waits c.in-Delivered.from c.in-Delivered.badge c.in-Delivered.message (sym c.in-Delivered.is ∙ c.recv.ensures.answer)

pub returns-in-Delivered-clause-after : goal.returns-in-Delivered-clause-after
returns-in-Delivered-clause-after g c = receives_shown g.P.Profile.profile c.self.inside.threads.memory_bits (g.S.CapStore.memory_bits c.self.inside.store) (g.W.Waiters.memory_bits c.self.inside.threads.waiters) (g.S.CapStore.forest c.self.inside.store) c.self.inside.threads.rows (g.W.Waiters.waits c.self.inside.threads.waiters) c.self.invariant.kernel c.args.self.now c.self.view_is c.args.thread c.args.service c.requires.live c.requires.ready (g.W.Waiters.waits c.recv.new.self) (g.W.Waiters.memory_bits c.recv.new.self) c.recv.ensures.memory c.args.block c.recv.ensures.waits c.in-Delivered.from c.in-Delivered.badge c.in-Delivered.message (sym c.in-Delivered.is ∙ c.recv.ensures.answer) c.set_row.new.self c.set_row.ensures.map

pub returns-in-Waiting-clause-reply : goal.returns-in-Waiting-clause-reply
returns-in-Waiting-clause-reply g c = receive_waits_reply g.P.Profile.profile c.self.inside.threads.memory_bits (g.S.CapStore.memory_bits c.self.inside.store) (g.W.Waiters.memory_bits c.self.inside.threads.waiters) (g.S.CapStore.forest c.self.inside.store) c.self.inside.threads.rows (g.W.Waiters.waits c.self.inside.threads.waiters) c.self.invariant.kernel c.args.self.now c.self.view_is c.args.thread c.args.service c.requires.live c.requires.ready (g.W.Waiters.waits c.recv.new.self) (g.W.Waiters.memory_bits c.recv.new.self) c.recv.ensures.memory c.args.block c.recv.ensures.waits (sym c.in-Waiting.is ∙ c.recv.ensures.answer)

pub returns-in-Waiting-clause-after : goal.returns-in-Waiting-clause-after
returns-in-Waiting-clause-after g c = receive_waits_shown g.P.Profile.profile c.self.inside.threads.memory_bits (g.S.CapStore.memory_bits c.self.inside.store) (g.W.Waiters.memory_bits c.self.inside.threads.waiters) (g.S.CapStore.forest c.self.inside.store) c.self.inside.threads.rows (g.W.Waiters.waits c.self.inside.threads.waiters) c.self.invariant.kernel c.args.self.now c.self.view_is c.args.thread c.args.service c.requires.live c.requires.ready (g.W.Waiters.waits c.recv.new.self) (g.W.Waiters.memory_bits c.recv.new.self) c.recv.ensures.memory c.args.block c.recv.ensures.waits (sym c.in-Waiting.is ∙ c.recv.ensures.answer)

pub invariant_of-self-in-Empty : goal.invariant_of-self-in-Empty
invariant_of-self-in-Empty g c = record { kernel = receive_empty_kernel g.P.Profile.profile c.self.inside.threads.memory_bits (g.S.CapStore.memory_bits c.self.inside.store) (g.W.Waiters.memory_bits c.self.inside.threads.waiters) (g.S.CapStore.forest c.self.inside.store) c.self.inside.threads.rows (g.W.Waiters.waits c.self.inside.threads.waiters) c.self.invariant.kernel c.args.self.now c.self.view_is c.args.thread c.args.service c.requires.live c.requires.ready (g.W.Waiters.waits c.recv.new.self) (g.W.Waiters.memory_bits c.recv.new.self) c.recv.ensures.memory c.args.block c.recv.ensures.waits (sym c.in-Empty.is ∙ c.recv.ensures.answer); chain_is = c.self.invariant.chain_is }

pub returns-in-Empty-clause-reply : goal.returns-in-Empty-clause-reply
returns-in-Empty-clause-reply g c = receive_empty_reply g.P.Profile.profile c.self.inside.threads.memory_bits (g.S.CapStore.memory_bits c.self.inside.store) (g.W.Waiters.memory_bits c.self.inside.threads.waiters) (g.S.CapStore.forest c.self.inside.store) c.self.inside.threads.rows (g.W.Waiters.waits c.self.inside.threads.waiters) c.self.invariant.kernel c.args.self.now c.self.view_is c.args.thread c.args.service c.requires.live c.requires.ready (g.W.Waiters.waits c.recv.new.self) (g.W.Waiters.memory_bits c.recv.new.self) c.recv.ensures.memory c.args.block c.recv.ensures.waits (sym c.in-Empty.is ∙ c.recv.ensures.answer)

pub returns-in-Empty-clause-after : goal.returns-in-Empty-clause-after
returns-in-Empty-clause-after g c = receive_empty_shown g.P.Profile.profile c.self.inside.threads.memory_bits (g.S.CapStore.memory_bits c.self.inside.store) (g.W.Waiters.memory_bits c.self.inside.threads.waiters) (g.S.CapStore.forest c.self.inside.store) c.self.inside.threads.rows (g.W.Waiters.waits c.self.inside.threads.waiters) c.self.invariant.kernel c.args.self.now c.self.view_is c.args.thread c.args.service c.requires.live c.requires.ready (g.W.Waiters.waits c.recv.new.self) (g.W.Waiters.memory_bits c.recv.new.self) c.recv.ensures.memory c.args.block c.recv.ensures.waits (sym c.in-Empty.is ∙ c.recv.ensures.answer)
