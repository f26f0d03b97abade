use Rattle.std.proofs.Common.{◌≡◌, true, take}
use Rattle.std.specs.List.{list_all}
use Rattle.query_flow.specs.Apart as spec
use Rattle.query_flow.proofs.excluded.stay_idle.Given as goal

abbrev pub invariant-loop-thread : goal.invariant-loop-thread
invariant-loop-thread g l = list_all (spec.stays_idle g.P.Profile.profile l.flows l.kernel) (take l.thread-index l.idle) ≡ true
