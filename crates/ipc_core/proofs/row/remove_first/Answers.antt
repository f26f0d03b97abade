use Rattle.std.proofs.Common.{◌≡◌, Some, None, position, sym, ap, subst, ◌∙◌}
use Rattle.ipc_core.specs.Representation.Rows.{is_at, row_thread, waits_of, ArePlaced}
use Rattle.ipc_core.specs.Waits.{IsThreadAddress}
use Rattle.ipc_core.proofs.RowForm.Queue.{nobody_waits}
use Rattle.ipc_core.proofs.RowForm.Served.{waits_served, all_left}
use Rattle.ipc_core.proofs.row.remove_first.Goals as goal

pub returns-in-Some-clause-waits : goal.returns-in-Some-clause-waits
returns-in-Some-clause-waits c w list is =
    let found : position (is_at c.args.endpoint) c.args.rows.now.items ≡ Some c.in-Some.place = cc in
    ap waits_of c.remove.ensures.items ∙ waits_served c.args.rows.now.items c.args.endpoint c.in-Some.place c.remove.result w list found c.requires is

pub returns-in-Some-clause-placed : goal.returns-in-Some-clause-placed
returns-in-Some-clause-placed c p memory placed =
    subst (ArePlaced p memory) (sym c.remove.ensures.items) (all_left (λ row. IsThreadAddress p memory (row_thread row)) c.args.rows.now.items c.in-Some.place placed)

pub returns-in_default-clause-waits : goal.returns-in_default-clause-waits
returns-in_default-clause-waits c w list is =
    let none : position (is_at c.args.endpoint) c.args.rows.now.items ≡ None = cc in
    cc (nobody_waits c.args.rows.now.items c.args.endpoint none, is)
