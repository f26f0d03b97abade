use Rattle.std.proofs.Common.{◌≡◌, false, take}
use Rattle.std.specs.List.{list_any}
use Rattle.query_parts.specs.Listed as spec
use Rattle.query_parts.proofs.listed.is_one_allowed.Given as goal

abbrev pub invariant-loop-allowed : goal.invariant-loop-allowed
invariant-loop-allowed l = list_any (spec.allows l.part l.base l.badge l.rights) (take l.allowed-index l.uses) ≡ false
