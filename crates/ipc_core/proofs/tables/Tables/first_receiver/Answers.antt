use Rattle.std.proofs.Common.{sym, ap, ◌∙◌}
use Rattle.ipc_core.specs.declared.tables.EndpointRow.{EndpointRow}
use Rattle.ipc_core.specs.Representation.Linked.{receiver_in}
use Rattle.ipc_core.proofs.QueueForm.QueueReads.{first_is, member_row, receiver_is, no_receiver}
use Rattle.ipc_core.proofs.tables.Tables.first_receiver.Goals as goal

pub thread-requires : goal.thread-requires
thread-requires g c =
    let p = g.P.Profile.profile in
    let own = c.args.self.now in
    member_row p own c.requires.linked c.args.endpoint 0 c.in_ok-first.first
    (sym (first_is p own c.requires.linked c.args.endpoint) ∙ ap (λ (row : EndpointRow). row.first) (sym c.endpoint.ensures) ∙ c.in_ok-first.was)

pub endpoint-requires : goal.endpoint-requires
endpoint-requires g c = c.requires.endpoint

pub returns : goal.returns
returns g c =
    let p = g.P.Profile.profile in
    let own = c.args.self.now in
    c.receiver.ensures ∙ ap (receiver_in c.in_ok-first.first) c.thread.ensures
    ∙ receiver_is p own c.requires.linked c.args.endpoint c.in_ok-first.first
    (sym (first_is p own c.requires.linked c.args.endpoint) ∙ ap (λ (row : EndpointRow). row.first) (sym c.endpoint.ensures) ∙ c.in_ok-first.was)

pub returns-in_err-first : goal.returns-in_err-first
returns-in_err-first g c =
    let p = g.P.Profile.profile in
    let own = c.args.self.now in
    c.from_residual.ensures ∙ sym (no_receiver p own c.requires.linked c.args.endpoint
    (sym (first_is p own c.requires.linked c.args.endpoint) ∙ ap (λ (row : EndpointRow). row.first) (sym c.endpoint.ensures) ∙ c.in_err-first.was))
