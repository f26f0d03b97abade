use Rattle.std.proofs.Common.{length, map}
use Rattle.query_reach.specs.Private.Tables.{SameShape}
use Rattle.query_reach.specs.Private.Search.{RowSpreads}
use Rattle.query_reach.proofs.search.expand_row.Given as goal

abbrev pub invariant-loop-place : goal.invariant-loop-place
invariant-loop-place g l = record {
  shape : SameShape (length l.filled) (map (λ r. r.items) l.fn.rows.items) (map (λ r. r.items) l.rows.items);
  spreads : RowSpreads g.P.Profile.profile l.row l.left l.filled l.place (map (λ r. r.items) l.fn.rows.items) (map (λ r. r.items) l.rows.items);
}
