use Rattle.std.proofs.Common.{◌<◌, ◌≤◌, length, refl, sym, ◌∙◌, arith}
use Rattle.std.proofs.lemmas.List.{set-get_or}
use Rattle.slot_core.proofs.RowStores.RowRemoves.{raise_stop, raise_end, raise_step}
use Rattle.slot_core.proofs.rows.raise.Goals as goal

pub loop-row-init : goal.loop-row-init
loop-row-init c = refl

pub returns-then-row-depth : goal.returns-then-row-depth
returns-then-row-depth c =
    let i : c.loop-row.row-index < length c.loop-row.rows = omega arith in
    set-get_or c.loop-row.rows c.loop-row.row-index c.row-item.result ∙ sym (raise_stop c.args.depth c.loop-row.rows c.loop-row.row-index c.row-item.result i c.if-row-depth.true) ∙ c.loop-row.invariant

pub loop-row-preserved : goal.loop-row-preserved
loop-row-preserved c =
    let i : c.loop-row.row-index < length c.loop-row.rows = omega arith in
    raise_step c.args.depth c.loop-row.rows c.loop-row.row-index c.row-item.result i c.if-row-depth.false ∙ c.loop-row.invariant

pub returns : goal.returns
returns c =
    let i : length c.loop-row.rows ≤ c.loop-row.row-index = omega arith in
    sym (raise_end c.args.depth c.loop-row.rows c.loop-row.row-index i) ∙ c.loop-row.invariant
