use Rattle.std.proofs.Common.{◌≡◌, true, take}
use Rattle.std.specs.List.{list_all}
use Rattle.query_flow.specs.Apart as spec
use Rattle.query_flow.proofs.excluded.is_apart_from_all.Given as goal

abbrev pub invariant-loop-other : goal.invariant-loop-other
invariant-loop-other l = list_all (spec.is_spot_apart l.spot) (take l.other-index l.others) ≡ true
