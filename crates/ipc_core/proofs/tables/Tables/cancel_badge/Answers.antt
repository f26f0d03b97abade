use Rattle.std.proofs.Common.{sym, ap, ◌∙◌}
use Rattle.ipc_core.specs.declared.tables.QueueRow.{QueueRow}
use Rattle.ipc_core.specs.Representation.Linked.{waiter_of}
use Rattle.ipc_core.specs.Cancelled.{is_sender_with}
use Rattle.ipc_core.proofs.QueueForm.Drained.{here_row, stands_past, stands_out, shorter_past, shorter_out, named_leaves, at_end}
use Rattle.ipc_core.proofs.QueueForm.InTables.{none_of}
use Rattle.ipc_core.proofs.tables.Tables.cancel_badge.Goals as goal

pub thread-row-requires : goal.thread-row-requires
thread-row-requires g c =
    let i = c.loop-here.invariant in
    here_row g.P.Profile.profile c.loop-here.self i.linked c.args.endpoint c.in-Some.thread c.loop-here.here (is_sender_with c.args.badge) i.stands c.in-Some.is

pub loop-here-smaller-then-sends_with : goal.loop-here-smaller-then-sends_with
loop-here-smaller-then-sends_with g c =
    let i = c.loop-here.invariant in
    let next = ap (λ (row : QueueRow). row.next) c.thread-row.ensures in
    shorter_out g.P.Profile.profile c.loop-here.self i.linked c.args.endpoint c.in-Some.thread c.loop-here.here (is_sender_with c.args.badge) i.stands c.in-Some.is c.take_out.new.self c.take_out.ensures.linked c.thread-row.result.next next c.take_out.ensures.orders

pub loop-here-preserved-then-sends_with : goal.loop-here-preserved-then-sends_with
loop-here-preserved-then-sends_with g c =
    let i = c.loop-here.invariant in
    let p = g.P.Profile.profile in
    let own = c.loop-here.self in
    let names = is_sender_with c.args.badge in
    let next = ap (λ (row : QueueRow). row.next) c.thread-row.ensures in
    let says = sym (c.sends_with.ensures c.in-Some.thread ∙ ap (λ row. is_sender_with c.args.badge (waiter_of row c.in-Some.thread)) c.thread-row.ensures) ∙ c.if-sends_with.true in
    let still = stands_out p own i.linked c.args.endpoint c.in-Some.thread c.loop-here.here names i.stands c.in-Some.is c.take_out.new.self c.thread-row.result.next next c.take_out.ensures.orders c.take_out.ensures.others in
    record {
      linked = c.take_out.ensures.linked;
      waits = named_leaves p own i.linked c.args.endpoint c.in-Some.thread c.loop-here.here names i.stands c.in-Some.is c.take_out.new.self c.take_out.ensures.waits says ∙ i.waits;
      stands = still;
      threads = c.take_out.ensures.threads ∙ i.threads;
      endpoints = c.take_out.ensures.endpoints ∙ i.endpoints;
    }

pub loop-here-smaller : goal.loop-here-smaller
loop-here-smaller g c =
    let i = c.loop-here.invariant in
    let next = ap (λ (row : QueueRow). row.next) c.thread-row.ensures in
    shorter_past g.P.Profile.profile c.loop-here.self i.linked c.args.endpoint c.in-Some.thread c.loop-here.here (is_sender_with c.args.badge) i.stands c.in-Some.is c.thread-row.result.next next

pub loop-here-preserved : goal.loop-here-preserved
loop-here-preserved g c =
    let i = c.loop-here.invariant in
    let p = g.P.Profile.profile in
    let own = c.loop-here.self in
    let names = is_sender_with c.args.badge in
    let next = ap (λ (row : QueueRow). row.next) c.thread-row.ensures in
    let says = sym (c.sends_with.ensures c.in-Some.thread ∙ ap (λ row. is_sender_with c.args.badge (waiter_of row c.in-Some.thread)) c.thread-row.ensures) ∙ c.if-sends_with.false in
    let still = stands_past p own i.linked c.args.endpoint c.in-Some.thread c.loop-here.here names i.stands c.in-Some.is c.thread-row.result.next next says in
    record { linked = i.linked; waits = i.waits; stands = still; threads = i.threads; endpoints = i.endpoints }

pub returns-clause-waits : goal.returns-clause-waits
returns-clause-waits g c =
    let i = c.loop-here.invariant in
    sym (at_end g.P.Profile.profile c.loop-here.self i.linked c.args.endpoint c.loop-here.here (is_sender_with c.args.badge) i.stands (none_of c.loop-here.here c.in_default.not-Some)) ∙ i.waits
