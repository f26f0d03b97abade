use Rattle.std.proofs.Common.{◌≡◌, ◌++◌, ◌∷◌, [], sym, ap, subst, ◌∙◌}
use Rattle.ipc_core.specs.Representation.Rows.{AreDistinct, waits_of}
use Rattle.ipc_core.proofs.RowForm.Served.{waits_queued, distinct_push}
use Rattle.ipc_core.proofs.row.push_row.Goals as goal

pub returns-clause-waits : goal.returns-clause-waits
returns-clause-waits c =
    let rows : c.push.new.self.items ≡ c.args.rows.now.items ++ c.args.row ∷ [] = c.in-Ok.ensures.items in
    ap waits_of rows ∙ waits_queued c.args.rows.now.items c.args.row c.requires.free

pub returns-clause-distinct : goal.returns-clause-distinct
returns-clause-distinct c =
    let rows : c.push.new.self.items ≡ c.args.rows.now.items ++ c.args.row ∷ [] = c.in-Ok.ensures.items in
    subst AreDistinct (sym rows) (distinct_push c.args.rows.now.items c.args.row c.requires.free c.requires.distinct)
