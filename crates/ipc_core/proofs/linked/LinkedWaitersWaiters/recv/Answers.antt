use Rattle.std.proofs.Common.{sym, ap, ◌∙◌, cond, subst}
use Rattle.ipc_core.specs.declared.tables.QueueRow.{QueueRow}
use Rattle.ipc_core.specs.declared.waiter.Role.TheVariants.{Receiving}
use Rattle.ipc_core.specs.declared.waiter.Received.TheVariants.{Waiting, Empty}
use Rattle.ipc_core.specs.Representation.Linked.{waits_in, waiter_of}
use Rattle.ipc_core.specs.Waits.{first_sender, queued, received_from}
use Rattle.ipc_core.proofs.RowForm.First.{receive_serves, receive_queues, receive_leaves}
use Rattle.ipc_core.proofs.QueueForm.FirstOut.{first_served, sender_row, sender_thread}
use Rattle.ipc_core.proofs.Histories.Pairs.{receive_by_histories}
use Rattle.ipc_core.specs.Agreement.{AreAlike}
use Rattle.ipc_core.proofs.SendersOrReceivers.{alike_receive, alike_cancel_thread}
use Rattle.ipc_core.proofs.linked.LinkedWaitersWaiters.recv.Goals as goal

pub take_out-requires-clause-row : goal.take_out-requires-clause-row
take_out-requires-clause-row g c =
    let own = c.args.self.now in
    sender_row g.P.Profile.profile own.tables own.linked c.args.endpoint c.in-Some.offer (sym c.first_sender.ensures ∙ c.in-Some.is)

pub returns-in-Some-clause-waits : goal.returns-in-Some-clause-waits
returns-in-Some-clause-waits g c =
    let p = g.P.Profile.profile in
    let own = c.args.self.now in
    let first = sym c.first_sender.ensures ∙ c.in-Some.is in
    receive_serves c.args.block c.args.endpoint c.args.thread (waits_in p own.tables) (waits_in p c.take_out.new.self) c.in-Some.offer first
    (λ v list is. first_served p own.tables own.linked c.args.endpoint c.in-Some.offer.thread (waits_in p c.take_out.new.self) c.take_out.ensures.waits v list is
    (sender_thread v list c.in-Some.offer (sym (ap first_sender is) ∙ first)))

pub returns-in-Some-clause-histories : goal.returns-in-Some-clause-histories
returns-in-Some-clause-histories g c =
    let p = g.P.Profile.profile in
    let own = c.args.self.now in
    let first = sym c.first_sender.ensures ∙ c.in-Some.is in
    receive_by_histories c.args.block c.args.endpoint c.args.thread (waits_in p own.tables) (waits_in p c.take_out.new.self) _
    (sym (ap (λ o. received_from o c.args.block) first))
    (receive_serves c.args.block c.args.endpoint c.args.thread (waits_in p own.tables) (waits_in p c.take_out.new.self) c.in-Some.offer first
    (λ v list is. first_served p own.tables own.linked c.args.endpoint c.in-Some.offer.thread (waits_in p c.take_out.new.self) c.take_out.ensures.waits v list is
    (sender_thread v list c.in-Some.offer (sym (ap first_sender is) ∙ first))))

pub returns-in-None-clause-histories : goal.returns-in-None-clause-histories
returns-in-None-clause-histories g c =
    let p = g.P.Profile.profile in
    let own = c.args.self.now in
    let first = sym c.first_sender.ensures ∙ c.in-None.is in
    let put = c.wait_last.ensures.waits (Receiving c.args.endpoint) (ap (λ (row : QueueRow). row.role) c.receiving-row.ensures)
    ∙ ap (λ row. queued c.args.endpoint c.args.thread (Receiving c.args.endpoint) (waiter_of row c.args.thread) (waits_in p own.tables)) c.receiving-row.ensures in
    receive_by_histories c.args.block c.args.endpoint c.args.thread (waits_in p own.tables) (waits_in p c.wait_last.new.self) _
    (sym (ap (λ o. received_from o c.args.block) first ∙ ap (λ b. cond b Waiting Empty) c.if-block.true))
    (receive_queues c.args.block c.args.endpoint c.args.thread (waits_in p own.tables) (waits_in p c.wait_last.new.self) first c.if-block.true put)

pub returns-in-None-2-clause-histories : goal.returns-in-None-2-clause-histories
returns-in-None-2-clause-histories g c =
    let p = g.P.Profile.profile in
    let own = c.args.self.now in
    let first = sym c.first_sender.ensures ∙ c.in-None.is in
    receive_by_histories c.args.block c.args.endpoint c.args.thread (waits_in p own.tables) (waits_in p own.tables) _
    (sym (ap (λ o. received_from o c.args.block) first ∙ ap (λ b. cond b Waiting Empty) c.if-block.false))
    (receive_leaves c.args.block c.args.endpoint c.args.thread (waits_in p own.tables) first c.if-block.false)

pub invariant_of-self-clause-alike : goal.invariant_of-self-clause-alike
invariant_of-self-clause-alike g c =
    let p = g.P.Profile.profile in
    let own = c.args.self.now in
    subst AreAlike (sym c.take_out.ensures.waits) (alike_cancel_thread (waits_in p own.tables) own.alike c.in-Some.offer.thread)

pub invariant_of-self-in-None-clause-alike : goal.invariant_of-self-in-None-clause-alike
invariant_of-self-in-None-clause-alike g c =
    let p = g.P.Profile.profile in
    let own = c.args.self.now in
    let first = sym c.first_sender.ensures ∙ c.in-None.is in
    let put = c.wait_last.ensures.waits (Receiving c.args.endpoint) (ap (λ (row : QueueRow). row.role) c.receiving-row.ensures)
    ∙ ap (λ row. queued c.args.endpoint c.args.thread (Receiving c.args.endpoint) (waiter_of row c.args.thread) (waits_in p own.tables)) c.receiving-row.ensures in
    subst AreAlike (sym (receive_queues c.args.block c.args.endpoint c.args.thread (waits_in p own.tables) (waits_in p c.wait_last.new.self) first c.if-block.true put))
    (alike_receive (waits_in p own.tables) own.alike c.args.block c.args.endpoint c.args.thread)
