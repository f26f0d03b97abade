use Rattle.std.proofs.Common.{◌≡◌, map, vec_len}
use Rattle.query_reach.specs.Private.Tables.{AreEmpty}
use Rattle.query_reach.proofs.table.empty_rows.Given as goal

abbrev pub invariant-loop-left : goal.invariant-loop-left
invariant-loop-left l = record {
  height : vec_len l.rows ≡ l.left;
  empty : AreEmpty (map (λ r. r.items) l.rows.items);
}
