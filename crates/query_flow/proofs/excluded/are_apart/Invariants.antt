use Rattle.std.proofs.Common.{◌≡◌, true, take}
use Rattle.std.specs.List.{list_all}
use Rattle.query_flow.specs.declared.excluded.Spot.{Spot}
use Rattle.query_flow.specs.Apart as spec
use Rattle.query_flow.proofs.excluded.are_apart.Given as goal

abbrev pub invariant-loop-spot : goal.invariant-loop-spot
invariant-loop-spot l = list_all (λ (spot : Spot). list_all (spec.is_spot_apart spot) l.others) (take l.spot-index l.spots) ≡ true
