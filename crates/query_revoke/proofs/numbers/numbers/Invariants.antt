use Rattle.std.proofs.Common.{◌≡◌, ◌<◌, ◌^◌, map, take, All}
use Rattle.query_revoke.specs.Keyed.{keyed_by_place}
use Rattle.query_revoke.specs.Objects.{object_number, size_in}
use Rattle.query_revoke.proofs.numbers.numbers.Given as goal

abbrev pub invariant-loop-place : goal.invariant-loop-place
invariant-loop-place l = record {
  numbers : l.keyed.items ≡ keyed_by_place 0 (map (λ d. object_number d.cap) (take l.place l.list));
  small : All (λ d. size_in d.cap < 2 ^ 32) (take l.place l.list);
}
