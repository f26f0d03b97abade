use Rattle.std.proofs.Common.{sym, ap, ◌∙◌}
use Rattle.ipc_core.specs.declared.tables.EndpointRow.{EndpointRow}
use Rattle.ipc_core.proofs.QueueForm.QueueReads.{first_is, member_row}
use Rattle.ipc_core.proofs.QueueForm.Drained.{first_leaves, nobody_leaves, shorter_queue}
use Rattle.ipc_core.proofs.QueueForm.InTables.{none_of}
use Rattle.ipc_core.proofs.tables.Tables.cancel_endpoint.Goals as goal

pub take_out-requires-clause-row : goal.take_out-requires-clause-row
take_out-requires-clause-row g c =
    let p = g.P.Profile.profile in
    let own = c.loop-thread.self in
    let first = ap (λ (row : EndpointRow). row.first) (sym c.endpoint.ensures) ∙ c.in-Some.is in
    member_row p own c.loop-thread.invariant.linked c.args.endpoint 0 c.in-Some.thread (sym (first_is p own c.loop-thread.invariant.linked c.args.endpoint) ∙ first)

pub loop-thread-smaller : goal.loop-thread-smaller
loop-thread-smaller g c =
    let p = g.P.Profile.profile in
    let own = c.loop-thread.self in
    let first = ap (λ (row : EndpointRow). row.first) (sym c.endpoint.ensures) ∙ c.in-Some.is in
    shorter_queue p own c.take_out.new.self c.loop-thread.invariant.linked c.args.endpoint c.in-Some.thread first c.take_out.ensures.orders

pub loop-thread-preserved : goal.loop-thread-preserved
loop-thread-preserved g c =
    let p = g.P.Profile.profile in
    let own = c.loop-thread.self in
    let first = ap (λ (row : EndpointRow). row.first) (sym c.endpoint.ensures) ∙ c.in-Some.is in
    record {
      linked = c.take_out.ensures.linked;
      waits = first_leaves p own c.take_out.new.self c.loop-thread.invariant.linked c.args.endpoint c.in-Some.thread first c.take_out.ensures.waits ∙ c.loop-thread.invariant.waits;
      threads = c.take_out.ensures.threads ∙ c.loop-thread.invariant.threads;
      endpoints = c.take_out.ensures.endpoints ∙ c.loop-thread.invariant.endpoints;
    }

pub returns-clause-waits : goal.returns-clause-waits
returns-clause-waits g c =
    let p = g.P.Profile.profile in
    let own = c.loop-thread.self in
    let first = ap (λ (row : EndpointRow). row.first) (sym c.endpoint.ensures) ∙ none_of c.endpoint.result.first c.in_default.not-Some in
    sym (nobody_leaves p own c.loop-thread.invariant.linked c.args.endpoint first) ∙ c.loop-thread.invariant.waits
