use Rattle.std.proofs.Common.{rules, ◌<◌, length}
use Rattle.query_reach.proofs.Tabled.{note_is}
use Rattle.query_reach.proofs.table.note_at.Goals as goal

pub returns : goal.returns
returns c =
    let within : c.args.left < length c.args.rows.now.items = search rules in
    note_is (λ r. r.items) c.args.rows.now.items c.args.left c.args.place c.args.word c.index_mut.result.now c.note_in.new.row within c.index_mut.ensures.value c.note_in.ensures
