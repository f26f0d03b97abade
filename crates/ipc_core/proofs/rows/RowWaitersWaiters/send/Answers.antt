use Rattle.std.proofs.Common.{◌≡◌, ◌≤◌, ◌*◌, ◌^◌, ℕ, Some, None, arith, vec_capacity, sym, ap, subst, ◌∙◌, cond}
use Rattle.std.proofs.lemmas.List.Elements.{All-push}
use Rattle.cap_core.specs.Numbers.{tcb_size}
use Rattle.ipc_core.specs.declared.waiter.Waiter.TheVariants.{Sender}
use Rattle.ipc_core.specs.declared.waiter.Sent.TheVariants.{Waiting, Dropped}
use Rattle.ipc_core.specs.Representation.Rows.{row_thread, waiting_at, waits_of, ArePlaced}
use Rattle.ipc_core.specs.Waits.{IsThreadAddress, first_receiver, sent_to}
use Rattle.ipc_core.proofs.RowForm.First.{send_serves, send_queues, send_leaves}
use Rattle.ipc_core.proofs.Histories.Pairs.{send_by_histories}
use Rattle.ipc_core.proofs.RowForm.Room.{room_left}
use Rattle.ipc_core.specs.Agreement.{AreAlike}
use Rattle.ipc_core.proofs.SendersOrReceivers.{alike_send}
use Rattle.ipc_core.proofs.rows.RowWaitersWaiters.send.Goals as goal

pub push_row-requires-clause-room : goal.push_row-requires-clause-room
push_row-requires-clause-room g c =
    let own = c.args.self.now in
    let left = room_left own.rows.items (record { endpoint = c.args.endpoint; waiter = Sender c.args.thread c.args.badge c.args.message }) g.P.Profile.profile own.memory_bits (vec_capacity own.rows) own.distinct own.placed own.room c.requires.thread c.requires.free in
    omega (arith, own.rows.ok)

pub invariant_of-self-clause-room : goal.invariant_of-self-clause-room
invariant_of-self-clause-room g c =
    subst (λ (n : ℕ). 2 ^ c.args.self.now.memory_bits ≤ n * tcb_size g.P.Profile.profile) (sym c.remove_first.ensures.capacity) c.args.self.now.room

pub invariant_of-self-clause-placed : goal.invariant_of-self-clause-placed
invariant_of-self-clause-placed g c = c.remove_first.ensures.placed _ _ c.args.self.now.placed

pub returns-in-Some-clause-histories : goal.returns-in-Some-clause-histories
returns-in-Some-clause-histories g c =
    let first : first_receiver (waiting_at c.args.self.now.rows.items c.args.endpoint) ≡ Some c.in-Some.to = cc in
    send_by_histories c.args.block c.args.endpoint c.args.thread c.args.badge c.args.message (waits_of c.args.self.now.rows.items) (waits_of c.remove_first.new.rows.items) _
    (sym (ap (λ o. sent_to o c.args.block) first))
    (send_serves c.args.block c.args.endpoint c.args.thread c.args.badge c.args.message (waits_of c.args.self.now.rows.items) _ c.in-Some.to first c.remove_first.ensures.waits)

pub returns-in-None-clause-histories : goal.returns-in-None-clause-histories
returns-in-None-clause-histories g c =
    let first : first_receiver (waiting_at c.args.self.now.rows.items c.args.endpoint) ≡ None = cc in
    send_by_histories c.args.block c.args.endpoint c.args.thread c.args.badge c.args.message (waits_of c.args.self.now.rows.items) (waits_of c.push_row.new.rows.items) _
    (sym (ap (λ o. sent_to o c.args.block) first ∙ ap (λ b. cond b Waiting Dropped) c.if-block.true))
    (send_queues c.args.block c.args.endpoint c.args.thread c.args.badge c.args.message (waits_of c.args.self.now.rows.items) _ first c.if-block.true c.push_row.ensures.waits)

pub returns-in-None-2-clause-histories : goal.returns-in-None-2-clause-histories
returns-in-None-2-clause-histories g c =
    let first : first_receiver (waiting_at c.args.self.now.rows.items c.args.endpoint) ≡ None = cc in
    send_by_histories c.args.block c.args.endpoint c.args.thread c.args.badge c.args.message (waits_of c.args.self.now.rows.items) (waits_of c.args.self.now.rows.items) _
    (sym (ap (λ o. sent_to o c.args.block) first ∙ ap (λ b. cond b Waiting Dropped) c.if-block.false))
    (send_leaves c.args.block c.args.endpoint c.args.thread c.args.badge c.args.message (waits_of c.args.self.now.rows.items) first c.if-block.false)

pub invariant_of-self-clause-alike : goal.invariant_of-self-clause-alike
invariant_of-self-clause-alike g c =
    let own = c.args.self.now in
    let first : first_receiver (waiting_at own.rows.items c.args.endpoint) ≡ Some c.in-Some.to = cc in
    subst AreAlike (sym (send_serves c.args.block c.args.endpoint c.args.thread c.args.badge c.args.message (waits_of own.rows.items) _ c.in-Some.to first c.remove_first.ensures.waits))
    (alike_send (waits_of own.rows.items) own.alike c.args.block c.args.endpoint c.args.thread c.args.badge c.args.message)

pub invariant_of-self-in-None-clause-alike : goal.invariant_of-self-in-None-clause-alike
invariant_of-self-in-None-clause-alike g c =
    let own = c.args.self.now in
    let first : first_receiver (waiting_at own.rows.items c.args.endpoint) ≡ None = cc in
    subst AreAlike (sym (send_queues c.args.block c.args.endpoint c.args.thread c.args.badge c.args.message (waits_of own.rows.items) _ first c.if-block.true c.push_row.ensures.waits))
    (alike_send (waits_of own.rows.items) own.alike c.args.block c.args.endpoint c.args.thread c.args.badge c.args.message)

pub invariant_of-self-in-None-clause-placed : goal.invariant_of-self-in-None-clause-placed
invariant_of-self-in-None-clause-placed g c =
    let own = c.args.self.now in
    subst (ArePlaced g.P.Profile.profile own.memory_bits) (sym c.push_row.ensures.rows)
    (All-push (λ row. IsThreadAddress g.P.Profile.profile own.memory_bits (row_thread row)) own.rows.items (record { endpoint = c.args.endpoint; waiter = Sender c.args.thread c.args.badge c.args.message }) own.placed c.requires.thread)
