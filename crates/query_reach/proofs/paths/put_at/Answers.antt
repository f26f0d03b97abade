use Rattle.std.proofs.Common.{rules, ◌<◌, length}
use Rattle.query_reach.proofs.PathTables.{put_is}
use Rattle.query_reach.proofs.paths.put_at.Goals as goal

pub returns : goal.returns
returns c =
    let within : c.args.read < length c.args.rows.now.items = search rules in
    put_is (λ r. r.items) c.args.rows.now.items c.args.read c.args.place c.args.path c.index_mut.result.now c.put_in_row.new.row within c.index_mut.ensures.value c.put_in_row.ensures
