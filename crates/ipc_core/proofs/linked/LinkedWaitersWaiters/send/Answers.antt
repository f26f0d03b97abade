use Rattle.std.proofs.Common.{sym, ap, ◌∙◌, cond, subst}
use Rattle.ipc_core.specs.declared.tables.QueueRow.{QueueRow}
use Rattle.ipc_core.specs.declared.waiter.Role.TheVariants.{Sending}
use Rattle.ipc_core.specs.declared.waiter.Sent.TheVariants.{Waiting, Dropped}
use Rattle.ipc_core.specs.Representation.Linked.{waits_in, waiter_of}
use Rattle.ipc_core.specs.Waits.{first_receiver, queued, sent_to}
use Rattle.ipc_core.proofs.RowForm.First.{send_serves, send_queues, send_leaves}
use Rattle.ipc_core.proofs.QueueForm.FirstOut.{first_served, receiver_row, receiver_thread}
use Rattle.ipc_core.proofs.Histories.Pairs.{send_by_histories}
use Rattle.ipc_core.specs.Agreement.{AreAlike}
use Rattle.ipc_core.proofs.SendersOrReceivers.{alike_send, alike_cancel_thread}
use Rattle.ipc_core.proofs.linked.LinkedWaitersWaiters.send.Goals as goal

pub take_out-requires-clause-row : goal.take_out-requires-clause-row
take_out-requires-clause-row g c =
    let own = c.args.self.now in
    receiver_row g.P.Profile.profile own.tables own.linked c.args.endpoint c.in-Some.to (sym c.first_receiver.ensures ∙ c.in-Some.is)

pub returns-in-Some-clause-waits : goal.returns-in-Some-clause-waits
returns-in-Some-clause-waits g c =
    let p = g.P.Profile.profile in
    let own = c.args.self.now in
    let first = sym c.first_receiver.ensures ∙ c.in-Some.is in
    send_serves c.args.block c.args.endpoint c.args.thread c.args.badge c.args.message (waits_in p own.tables) (waits_in p c.take_out.new.self) c.in-Some.to first
    (λ v list is. first_served p own.tables own.linked c.args.endpoint c.in-Some.to (waits_in p c.take_out.new.self) c.take_out.ensures.waits v list is
    (receiver_thread v list c.in-Some.to (sym (ap first_receiver is) ∙ first)))

pub returns-in-Some-clause-histories : goal.returns-in-Some-clause-histories
returns-in-Some-clause-histories g c =
    let p = g.P.Profile.profile in
    let own = c.args.self.now in
    let first = sym c.first_receiver.ensures ∙ c.in-Some.is in
    send_by_histories c.args.block c.args.endpoint c.args.thread c.args.badge c.args.message (waits_in p own.tables) (waits_in p c.take_out.new.self) _
    (sym (ap (λ o. sent_to o c.args.block) first))
    (send_serves c.args.block c.args.endpoint c.args.thread c.args.badge c.args.message (waits_in p own.tables) (waits_in p c.take_out.new.self) c.in-Some.to first
    (λ v list is. first_served p own.tables own.linked c.args.endpoint c.in-Some.to (waits_in p c.take_out.new.self) c.take_out.ensures.waits v list is
    (receiver_thread v list c.in-Some.to (sym (ap first_receiver is) ∙ first))))

pub returns-in-None-clause-histories : goal.returns-in-None-clause-histories
returns-in-None-clause-histories g c =
    let p = g.P.Profile.profile in
    let own = c.args.self.now in
    let first = sym c.first_receiver.ensures ∙ c.in-None.is in
    let put = c.wait_last.ensures.waits (Sending c.args.endpoint) (ap (λ (row : QueueRow). row.role) c.sending-row.ensures)
    ∙ ap (λ row. queued c.args.endpoint c.args.thread (Sending c.args.endpoint) (waiter_of row c.args.thread) (waits_in p own.tables)) c.sending-row.ensures in
    send_by_histories c.args.block c.args.endpoint c.args.thread c.args.badge c.args.message (waits_in p own.tables) (waits_in p c.wait_last.new.self) _
    (sym (ap (λ o. sent_to o c.args.block) first ∙ ap (λ b. cond b Waiting Dropped) c.if-block.true))
    (send_queues c.args.block c.args.endpoint c.args.thread c.args.badge c.args.message (waits_in p own.tables) (waits_in p c.wait_last.new.self) first c.if-block.true put)

pub returns-in-None-2-clause-histories : goal.returns-in-None-2-clause-histories
returns-in-None-2-clause-histories g c =
    let p = g.P.Profile.profile in
    let own = c.args.self.now in
    let first = sym c.first_receiver.ensures ∙ c.in-None.is in
    send_by_histories c.args.block c.args.endpoint c.args.thread c.args.badge c.args.message (waits_in p own.tables) (waits_in p own.tables) _
    (sym (ap (λ o. sent_to o c.args.block) first ∙ ap (λ b. cond b Waiting Dropped) c.if-block.false))
    (send_leaves c.args.block c.args.endpoint c.args.thread c.args.badge c.args.message (waits_in p own.tables) first c.if-block.false)

pub invariant_of-self-clause-alike : goal.invariant_of-self-clause-alike
invariant_of-self-clause-alike g c =
    let p = g.P.Profile.profile in
    let own = c.args.self.now in
    subst AreAlike (sym c.take_out.ensures.waits) (alike_cancel_thread (waits_in p own.tables) own.alike c.in-Some.to)

pub invariant_of-self-in-None-clause-alike : goal.invariant_of-self-in-None-clause-alike
invariant_of-self-in-None-clause-alike g c =
    let p = g.P.Profile.profile in
    let own = c.args.self.now in
    let first = sym c.first_receiver.ensures ∙ c.in-None.is in
    let put = c.wait_last.ensures.waits (Sending c.args.endpoint) (ap (λ (row : QueueRow). row.role) c.sending-row.ensures)
    ∙ ap (λ row. queued c.args.endpoint c.args.thread (Sending c.args.endpoint) (waiter_of row c.args.thread) (waits_in p own.tables)) c.sending-row.ensures in
    subst AreAlike (sym (send_queues c.args.block c.args.endpoint c.args.thread c.args.badge c.args.message (waits_in p own.tables) (waits_in p c.wait_last.new.self) first c.if-block.true put))
    (alike_send (waits_in p own.tables) own.alike c.args.block c.args.endpoint c.args.thread c.args.badge c.args.message)
