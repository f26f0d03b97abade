use Rattle.std.proofs.Common.{rules, ◌≡◌, ◌<◌, length}
use Rattle.query_reach.proofs.Tabled.{open_is, open_already}
use Rattle.query_reach.proofs.table.open_row.Goals as goal

pub returns-in_ok-rows : goal.returns-in_ok-rows
returns-in_ok-rows c =
    let within : c.args.left < length c.args.rows.now.items = search rules in
    let none : length c.index.result.now.items ≡ 0 = search rules in
    open_is (λ r. r.items) c.args.rows.now.items c.args.left c.args.width c.index.result.now c.in_ok-rows.field-0 within c.index.ensures none c.in_ok-rows.ensures c.requires.wide

pub returns-else-is_empty : goal.returns-else-is_empty
returns-else-is_empty c =
    let within : c.args.left < length c.args.rows.now.items = search rules in
    open_already (λ r. r.items) c.args.rows.now.items c.args.left c.args.width c.index.result.now within c.index.ensures (λ none. search rules) c.requires.wide
