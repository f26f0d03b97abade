use Rattle.std.proofs.Common.{◌≡◌, ◌+◌, suc, slice_get, sym, ap, ◌∙◌, arith}
use Rattle.ipc_core.specs.declared.tables.EndpointRow.{EndpointRow}
use Rattle.ipc_core.specs.declared.tables.QueueRow.{QueueRow}
use Rattle.ipc_core.specs.Representation.Linked.{orders_in}
use Rattle.ipc_core.proofs.QueueForm.QueueReads.{first_is, member_row, next_is, nobody_at}
use Rattle.ipc_core.proofs.tables.Tables.waiting_at.Goals as goal

pub loop-preserved : goal.loop-preserved
loop-preserved g c =
    let p = g.P.Profile.profile in
    let own = c.args.self.now in
    let more : suc c.loop.counter ≡ c.loop.counter + 1 = omega arith in
    ap (λ (row : QueueRow). row.next) c.thread-here.ensures
    ∙ next_is p own c.requires.linked c.args.endpoint c.loop.counter c.in_ok-thread.thread (sym c.loop.invariant ∙ c.in_ok-thread.was)
    ∙ ap (slice_get (orders_in p own c.args.endpoint)) more

pub endpoint-here-requires : goal.endpoint-here-requires
endpoint-here-requires g c = c.requires.endpoint

pub loop-init : goal.loop-init
loop-init g c = ap (λ (row : EndpointRow). row.first) c.endpoint-here.ensures ∙ first_is g.P.Profile.profile c.args.self.now c.requires.linked c.args.endpoint

pub thread-here-requires : goal.thread-here-requires
thread-here-requires g c = member_row g.P.Profile.profile c.args.self.now c.requires.linked c.args.endpoint c.loop.counter c.in_ok-thread.thread (sym c.loop.invariant ∙ c.in_ok-thread.was)

pub returns-in_err-thread : goal.returns-in_err-thread
returns-in_err-thread g c = c.from_residual.ensures ∙ sym (nobody_at g.P.Profile.profile c.args.self.now c.requires.linked c.args.endpoint c.loop.counter c.args.place (omega arith) (sym c.loop.invariant ∙ c.in_err-thread.was))
