use Rattle.std.proofs.Common.{◌≡◌, true, take}
use Rattle.std.specs.List.{list_all}
use Rattle.query_parts.specs.Order as order
use Rattle.query_parts.proofs.parts.are_addressed.Given as goal

abbrev pub invariant-loop-thread : goal.invariant-loop-thread
invariant-loop-thread g l = list_all (order.is_addressed g.P.Profile.profile) (take l.thread-index l.threads) ≡ true
