use Rattle.std.proofs.Common.{◌<◌}
use Rattle.std.specs.List.{Contains}
use Rattle.query_reach.specs.declared.reached.Reached.{Reached}
use Rattle.query_reach.specs.Private.Rows.{IsFoundInRows}
use Rattle.query_reach.proofs.reached.found.Given as goal

abbrev pub invariant-loop-place : goal.invariant-loop-place
invariant-loop-place l = record {
  only : (r : Reached) → Contains l.list.items r → IsFoundInRows l.row l.filled r;
  all : (r : Reached) (is : IsFoundInRows l.row l.filled r) → is.place < l.place → Contains l.list.items r;
}
