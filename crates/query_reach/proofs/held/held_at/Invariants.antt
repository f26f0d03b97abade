use Rattle.std.proofs.Common.{length, map}
use Rattle.query_reach.specs.Private.Entries.{IsBest}
use Rattle.query_reach.proofs.Depths.{bound}
use Rattle.query_reach.proofs.held.held_at.Given as goal

abbrev pub invariant-loop-at : goal.invariant-loop-at
invariant-loop-at g l = IsBest (map (λ r. r.items) l.rows) l.place l.slot (bound l.depths (length (map (λ r. r.items) l.rows)) l.at) l.best
