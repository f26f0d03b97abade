use Rattle.std.proofs.Common.{length, map}
use Rattle.query_reach.specs.Private.Tables.{SameShape}
use Rattle.query_reach.specs.Private.Search.{Spreads}
use Rattle.query_reach.proofs.search.expand.Given as goal

abbrev pub invariant-loop-place : goal.invariant-loop-place
invariant-loop-place g l = record {
  shape : SameShape (length l.filled) (map (λ r. r.items) l.fn.rows.items) (map (λ r. r.items) l.rows.items);
  spreads : Spreads g.P.Profile.profile l.from l.left l.word l.filled l.place (map (λ r. r.items) l.fn.rows.items) (map (λ r. r.items) l.rows.items);
}
