-- The proof of `send`: the goals that a search leaves open.
use Rattle.std.proofs.Common.{sym, ◌∙◌}
use Rattle.kernel_core.proofs.Messages.PartsAfter.{endpoint_stands, thread_stands, waits_nowhere, receiver_there, delivers_reply, delivers_kernel, delivers_shown, send_waits_reply, send_waits_kernel, send_waits_shown, send_dropped_reply, send_dropped_kernel, send_dropped_shown}
use Rattle.kernel_core.proofs.kernel.Kernel.send.Goals as goal

pub send-requires-clause-endpoint : goal.send-requires-clause-endpoint
send-requires-clause-endpoint g c = endpoint_stands g.P.Profile.profile c.self.inside.threads.memory_bits (g.S.CapStore.memory_bits c.self.inside.store) (g.W.Waiters.memory_bits c.self.inside.threads.waiters) (g.S.CapStore.forest c.self.inside.store) c.self.inside.threads.rows (g.W.Waiters.waits c.self.inside.threads.waiters) c.self.invariant.kernel c.args.self.now c.self.view_is c.args.thread c.args.service c.requires.live c.requires.ready

pub send-requires-clause-thread : goal.send-requires-clause-thread
send-requires-clause-thread g c = thread_stands g.P.Profile.profile c.self.inside.threads.memory_bits (g.S.CapStore.memory_bits c.self.inside.store) (g.W.Waiters.memory_bits c.self.inside.threads.waiters) (g.S.CapStore.forest c.self.inside.store) c.self.inside.threads.rows (g.W.Waiters.waits c.self.inside.threads.waiters) c.self.invariant.kernel c.args.self.now c.self.view_is c.args.thread c.args.service c.requires.live c.requires.ready

pub send-requires-clause-free : goal.send-requires-clause-free
send-requires-clause-free g c = waits_nowhere g.P.Profile.profile c.self.inside.threads.memory_bits (g.S.CapStore.memory_bits c.self.inside.store) (g.W.Waiters.memory_bits c.self.inside.threads.waiters) (g.S.CapStore.forest c.self.inside.store) c.self.inside.threads.rows (g.W.Waiters.waits c.self.inside.threads.waiters) c.self.invariant.kernel c.args.self.now c.self.view_is c.args.thread c.args.service c.requires.live c.requires.ready

pub set_row-requires : goal.set_row-requires
set_row-requires g c = receiver_there g.P.Profile.profile c.self.inside.threads.memory_bits (g.S.CapStore.memory_bits c.self.inside.store) (g.W.Waiters.memory_bits c.self.inside.threads.waiters) (g.S.CapStore.forest c.self.inside.store) c.self.inside.threads.rows (g.W.Waiters.waits c.self.inside.threads.waiters) c.self.invariant.kernel c.args.self.now c.self.view_is c.args.thread c.args.service c.requires.live c.requires.ready (g.W.Waiters.waits c.send.new.self) (g.W.Waiters.memory_bits c.send.new.self) c.send.ensures.memory c.args.message c.args.block c.send.ensures.waits c.in-Delivered.to (sym c.in-Delivered.is ∙ c.send.ensures.answer)

pub invariant_of-self : goal.invariant_of-self
invariant_of-self g c = record { kernel = delivers_kernel g.P.Profile.profile c.self.inside.threads.memory_bits (g.S.CapStore.memory_bits c.self.inside.store) (g.W.Waiters.memory_bits c.self.inside.threads.waiters) (g.S.CapStore.forest c.self.inside.store) c.self.inside.threads.rows (g.W.Waiters.waits c.self.inside.threads.waiters) c.self.invariant.kernel c.args.self.now c.self.view_is c.args.thread c.args.service c.requires.live c.requires.ready (g.W.Waiters.waits c.send.new.self) (g.W.Waiters.memory_bits c.send.new.self) c.send.ensures.memory c.args.message c.args.block c.send.ensures.waits c.in-Delivered.to (sym c.in-Delivered.is ∙ c.send.ensures.answer) c.set_row.new.self c.set_row.ensures.map c.set_row.ensures.length; chain_is = c.self.invariant.chain_is }

pub invariant_of-self-in-Waiting : goal.invariant_of-self-in-Waiting
invariant_of-self-in-Waiting g c = record { kernel = send_waits_kernel g.P.Profile.profile c.self.inside.threads.memory_bits (g.S.CapStore.memory_bits c.self.inside.store) (g.W.Waiters.memory_bits c.self.inside.threads.waiters) (g.S.CapStore.forest c.self.inside.store) c.self.inside.threads.rows (g.W.Waiters.waits c.self.inside.threads.waiters) c.self.invariant.kernel c.args.self.now c.self.view_is c.args.thread c.args.service c.requires.live c.requires.ready (g.W.Waiters.waits c.send.new.self) (g.W.Waiters.memory_bits c.send.new.self) c.send.ensures.memory c.args.message c.args.block c.send.ensures.waits (sym c.in-Waiting.is ∙ c.send.ensures.answer); chain_is = c.self.invariant.chain_is }

pub returns-in-Delivered-clause-reply : goal.returns-in-Delivered-clause-reply
returns-in-Delivered-clause-reply g c = delivers_reply g.P.Profile.profile c.self.inside.threads.memory_bits (g.S.CapStore.memory_bits c.self.inside.store) (g.W.Waiters.memory_bits c.self.inside.threads.waiters) (g.S.CapStore.forest c.self.inside.store) c.self.inside.threads.rows (g.W.Waiters.waits c.self.inside.threads.waiters) c.self.invariant.kernel c.args.self.now c.self.view_is c.args.thread c.args.service c.requires.live c.requires.ready (g.W.Waiters.waits c.send.new.self) (g.W.Waiters.memory_bits c.send.new.self) c.send.ensures.memory c.args.message c.args.block c.send.ensures.waits c.in-Delivered.to (sym c.in-Delivered.is ∙ c.send.ensures.answer)

pub returns-in-Delivered-clause-after : goal.returns-in-Delivered-clause-after
returns-in-Delivered-clause-after g c = delivers_shown g.P.Profile.profile c.self.inside.threads.memory_bits (g.S.CapStore.memory_bits c.self.inside.store) (g.W.Waiters.memory_bits c.self.inside.threads.waiters) (g.S.CapStore.forest c.self.inside.store) c.self.inside.threads.rows (g.W.Waiters.waits c.self.inside.threads.waiters) c.self.invariant.kernel c.args.self.now c.self.view_is c.args.thread c.args.service c.requires.live c.requires.ready (g.W.Waiters.waits c.send.new.self) (g.W.Waiters.memory_bits c.send.new.self) c.send.ensures.memory c.args.message c.args.block c.send.ensures.waits c.in-Delivered.to (sym c.in-Delivered.is ∙ c.send.ensures.answer) c.set_row.new.self c.set_row.ensures.map

pub returns-in-Waiting-clause-reply : goal.returns-in-Waiting-clause-reply
returns-in-Waiting-clause-reply g c = send_waits_reply g.P.Profile.profile c.self.inside.threads.memory_bits (g.S.CapStore.memory_bits c.self.inside.store) (g.W.Waiters.memory_bits c.self.inside.threads.waiters) (g.S.CapStore.forest c.self.inside.store) c.self.inside.threads.rows (g.W.Waiters.waits c.self.inside.threads.waiters) c.self.invariant.kernel c.args.self.now c.self.view_is c.args.thread c.args.service c.requires.live c.requires.ready (g.W.Waiters.waits c.send.new.self) (g.W.Waiters.memory_bits c.send.new.self) c.send.ensures.memory c.args.message c.args.block c.send.ensures.waits (sym c.in-Waiting.is ∙ c.send.ensures.answer)

pub returns-in-Waiting-clause-after : goal.returns-in-Waiting-clause-after
returns-in-Waiting-clause-after g c = send_waits_shown g.P.Profile.profile c.self.inside.threads.memory_bits (g.S.CapStore.memory_bits c.self.inside.store) (g.W.Waiters.memory_bits c.self.inside.threads.waiters) (g.S.CapStore.forest c.self.inside.store) c.self.inside.threads.rows (g.W.Waiters.waits c.self.inside.threads.waiters) c.self.invariant.kernel c.args.self.now c.self.view_is c.args.thread c.args.service c.requires.live c.requires.ready (g.W.Waiters.waits c.send.new.self) (g.W.Waiters.memory_bits c.send.new.self) c.send.ensures.memory c.args.message c.args.block c.send.ensures.waits (sym c.in-Waiting.is ∙ c.send.ensures.answer)

pub invariant_of-self-in-Dropped : goal.invariant_of-self-in-Dropped
invariant_of-self-in-Dropped g c = record { kernel = send_dropped_kernel g.P.Profile.profile c.self.inside.threads.memory_bits (g.S.CapStore.memory_bits c.self.inside.store) (g.W.Waiters.memory_bits c.self.inside.threads.waiters) (g.S.CapStore.forest c.self.inside.store) c.self.inside.threads.rows (g.W.Waiters.waits c.self.inside.threads.waiters) c.self.invariant.kernel c.args.self.now c.self.view_is c.args.thread c.args.service c.requires.live c.requires.ready (g.W.Waiters.waits c.send.new.self) (g.W.Waiters.memory_bits c.send.new.self) c.send.ensures.memory c.args.message c.args.block c.send.ensures.waits (sym c.in-Dropped.is ∙ c.send.ensures.answer); chain_is = c.self.invariant.chain_is }

pub returns-in-Dropped-clause-reply : goal.returns-in-Dropped-clause-reply
returns-in-Dropped-clause-reply g c = send_dropped_reply g.P.Profile.profile c.self.inside.threads.memory_bits (g.S.CapStore.memory_bits c.self.inside.store) (g.W.Waiters.memory_bits c.self.inside.threads.waiters) (g.S.CapStore.forest c.self.inside.store) c.self.inside.threads.rows (g.W.Waiters.waits c.self.inside.threads.waiters) c.self.invariant.kernel c.args.self.now c.self.view_is c.args.thread c.args.service c.requires.live c.requires.ready (g.W.Waiters.waits c.send.new.self) (g.W.Waiters.memory_bits c.send.new.self) c.send.ensures.memory c.args.message c.args.block c.send.ensures.waits (sym c.in-Dropped.is ∙ c.send.ensures.answer)

pub returns-in-Dropped-clause-after : goal.returns-in-Dropped-clause-after
returns-in-Dropped-clause-after g c = send_dropped_shown g.P.Profile.profile c.self.inside.threads.memory_bits (g.S.CapStore.memory_bits c.self.inside.store) (g.W.Waiters.memory_bits c.self.inside.threads.waiters) (g.S.CapStore.forest c.self.inside.store) c.self.inside.threads.rows (g.W.Waiters.waits c.self.inside.threads.waiters) c.self.invariant.kernel c.args.self.now c.self.view_is c.args.thread c.args.service c.requires.live c.requires.ready (g.W.Waiters.waits c.send.new.self) (g.W.Waiters.memory_bits c.send.new.self) c.send.ensures.memory c.args.message c.args.block c.send.ensures.waits (sym c.in-Dropped.is ∙ c.send.ensures.answer)
