use Rattle.std.proofs.Common.{◌≡◌, false, take}
use Rattle.std.specs.List.{list_any}
use Rattle.query_parts.specs.Order as spec
use Rattle.query_parts.proofs.order.one_says_more.Given as goal

abbrev pub invariant-loop-other : goal.invariant-loop-other
invariant-loop-other l = list_any (spec.says_more l.this) (take l.other-index l.uses) ≡ false
