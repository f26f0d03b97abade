use Rattle.std.proofs.Common.{rules}
use Rattle.query_reach.proofs.FullSlots.{empty_more}
use Rattle.query_reach.proofs.table.empty_rows.Goals as goal

pub loop-left-preserved : goal.loop-left-preserved
loop-left-preserved c = record {
  height = search rules;
  empty = rw c.in_ok-push.ensures.items (empty_more (λ r. r.items) c.loop-left.rows.items c.new.result c.loop-left.invariant.empty c.new.ensures.items);
}
