use Rattle.std.proofs.Common.{option_and_then, find, ap, sym, ◌∙◌}
use Rattle.ipc_core.specs.declared.row.WaitRow.{WaitRow}
use Rattle.ipc_core.specs.Offers.{offer_by}
use Rattle.ipc_core.specs.Representation.Rows.{is_of}
use Rattle.ipc_core.proofs.RowForm.Offers.{rows_offer}
use Rattle.ipc_core.proofs.rows.RowWaitersWaiters.offer.Goals as goal

pub returns : goal.returns
returns g c =
    let found = c.row_of.ensures ∙ ap (find (is_of c.args.thread)) c.deref.ensures.value in
    c.offer.ensures
    ∙ ap (option_and_then (λ (row : WaitRow). offer_by row.waiter)) (sym c.in_ok-row_of.was ∙ found)
    ∙ rows_offer c.args.self.now.rows.items c.args.thread
