-- The proof of `waiting`: the goals that a search leaves open.
use Rattle.std.proofs.Common.{List, ap, sym, ◌∙◌, option_map, slice_get}
use Rattle.ipc_core.specs.declared.waiter.Waiter.{Waiter}
use Rattle.ipc_core.specs.Waits.{thread_of}
use Rattle.kernel_abstract.specs.Shown.{Shown, waiting_at}
use Rattle.std.proofs.lemmas.Bool.{false≢true}
use Rattle.kernel_core.proofs.Messages.KernelParts.{waiting_is, nobody_there}
use Rattle.kernel_core.proofs.Messages.ShownWaiting.{states_agree}
use Rattle.kernel_core.proofs.kernel.Kernel.waiting.Goals as goal

pub returns-then-is_endpoint_address-clause-thread : goal.returns-then-is_endpoint_address-clause-thread
returns-then-is_endpoint_address-clause-thread g c =
    let list = ap (λ (v : Shown). waiting_at v c.args.endpoint) (sym c.self.view_is) ∙ waiting_is g.P.Profile.profile c.self.inside.threads.memory_bits (g.S.CapStore.memory_bits c.self.inside.store) (g.W.Waiters.memory_bits c.self.inside.threads.waiters) (g.S.CapStore.forest c.self.inside.store) c.self.inside.threads.rows (g.W.Waiters.waits c.self.inside.threads.waiters) c.self.invariant.kernel c.args.endpoint in
    c.waiting.ensures ∙ sym (ap (λ (xs : List Waiter). option_map thread_of (slice_get xs c.args.place)) list)

pub returns-else-is_endpoint_address-clause-thread : goal.returns-else-is_endpoint_address-clause-thread
returns-else-is_endpoint_address-clause-thread g c =
    let away = nobody_there g.P.Profile.profile c.self.inside.threads.memory_bits (g.S.CapStore.memory_bits c.self.inside.store) (g.W.Waiters.memory_bits c.self.inside.threads.waiters) (g.S.CapStore.forest c.self.inside.store) c.self.inside.threads.rows (g.W.Waiters.waits c.self.inside.threads.waiters) c.self.invariant.kernel c.args.endpoint (λ h. false≢true (sym c.if-is_endpoint_address.false ∙ c.is_endpoint_address.ensures.1 h)) in
    sym (ap (λ (xs : List Waiter). option_map thread_of (slice_get xs c.args.place)) (ap (λ (v : Shown). waiting_at v c.args.endpoint) (sym c.self.view_is) ∙ away))

pub returns-then-is_endpoint_address-clause-agree : goal.returns-then-is_endpoint_address-clause-agree
returns-then-is_endpoint_address-clause-agree g c = states_agree g.P.Profile.profile c.self.inside.threads.memory_bits (g.S.CapStore.memory_bits c.self.inside.store) (g.W.Waiters.memory_bits c.self.inside.threads.waiters) (g.S.CapStore.forest c.self.inside.store) c.self.inside.threads.rows (g.W.Waiters.waits c.self.inside.threads.waiters) c.self.invariant.kernel (g.met.W.Waiters.agree c.self.inside.threads.waiters) c.args.self.now c.self.view_is

pub returns-else-is_endpoint_address-clause-agree : goal.returns-else-is_endpoint_address-clause-agree
returns-else-is_endpoint_address-clause-agree g c = states_agree g.P.Profile.profile c.self.inside.threads.memory_bits (g.S.CapStore.memory_bits c.self.inside.store) (g.W.Waiters.memory_bits c.self.inside.threads.waiters) (g.S.CapStore.forest c.self.inside.store) c.self.inside.threads.rows (g.W.Waiters.waits c.self.inside.threads.waiters) c.self.invariant.kernel (g.met.W.Waiters.agree c.self.inside.threads.waiters) c.args.self.now c.self.view_is
