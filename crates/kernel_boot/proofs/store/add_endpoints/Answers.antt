-- The proof of `add_endpoints`: the goals that a search leaves open.
use Rattle.std.proofs.Common.{ap}
use Rattle.kernel_abstract.specs.Plan.{endpoint_place}
use Rattle.kernel_abstract.specs.Boot.{whole_endpoint}
use Rattle.kernel_abstract.proofs.Boot.Puts.{range_added}
use Rattle.kernel_boot.proofs.store.add_endpoints.Goals as goal

pub loop-j-preserved : goal.loop-j-preserved
loop-j-preserved g c =
    range_added (λ j. whole_endpoint (endpoint_place g.P.Profile.profile c.args.plan.now j)) c.args.caps.now.items _ _ c.loop-j.j (whole_endpoint c.endpoint_place.result) c.loop-j.invariant c.in_ok-push.ensures.items (ap whole_endpoint c.endpoint_place.ensures)
