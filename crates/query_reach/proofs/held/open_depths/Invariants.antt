use Rattle.std.proofs.Common.{map}
use Rattle.query_reach.proofs.Depths.{Below}
use Rattle.query_reach.proofs.held.open_depths.Given as goal

abbrev pub invariant-loop-depth : goal.invariant-loop-depth
invariant-loop-depth l = Below (map (λ r. r.items) l.rows) l.depths.items l.depth
