use Rattle.std.proofs.Common.{◌≡◌, ◌++◌, length, filter}
use Rattle.query_orders.specs.World.{still_waits}
use Rattle.query_orders.proofs.exploring.waits.still_waiting.Given as goal

abbrev pub invariant-loop-call : goal.invariant-loop-call
invariant-loop-call g l = l.kept.items ++ filter (still_waits l.kernel) l.rest ≡ filter (still_waits l.kernel) l.waits

abbrev pub decreases-loop-call : goal.decreases-loop-call
decreases-loop-call g l = length l.rest
