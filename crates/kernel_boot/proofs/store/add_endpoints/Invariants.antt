-- The proof of `add_endpoints`: what holds at each turn of its loop.
use Rattle.std.proofs.Common.{◌≡◌, ◌++◌, map}
use Rattle.std.specs.List.{range_with_len}
use Rattle.kernel_abstract.specs.Plan.{endpoint_place}
use Rattle.kernel_abstract.specs.Boot.{whole_endpoint}
use Rattle.kernel_boot.proofs.store.add_endpoints.Given as goal

abbrev pub invariant-loop-j : goal.invariant-loop-j
invariant-loop-j g l = l.caps.items ≡ l.initial.caps.items ++ map (λ j. whole_endpoint (endpoint_place g.P.Profile.profile l.plan j)) (range_with_len 0 l.j)
