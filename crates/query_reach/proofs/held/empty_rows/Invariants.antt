use Rattle.std.proofs.Common.{◌≡◌, map, replicate, []}
use Rattle.query_reach.proofs.held.empty_rows.Given as goal

abbrev pub invariant-loop-read : goal.invariant-loop-read
invariant-loop-read g l = map (λ r. r.items) l.rows.items ≡ replicate l.read []
