use Rattle.std.proofs.Common.{◌≡◌, map, take}
use Rattle.slot_core.specs.Places.{address_of}
use Rattle.query_revoke.specs.Keyed.{keyed_by_place}
use Rattle.query_revoke.proofs.numbers.addresses.Given as goal

abbrev pub invariant-loop-place : goal.invariant-loop-place
invariant-loop-place g l = l.keyed.items ≡ keyed_by_place 0 (map (λ d. address_of g.P.Profile.profile d.slot) (take l.place l.list))
