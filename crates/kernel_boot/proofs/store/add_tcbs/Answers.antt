-- The proof of `add_tcbs`: the goals that a search leaves open.
use Rattle.std.proofs.Common.{ap}
use Rattle.cap_core.specs.declared.capability.Cap.TheVariants.{Tcb}
use Rattle.kernel_abstract.specs.Plan.{tcb_place}
use Rattle.kernel_abstract.proofs.Boot.Puts.{range_added}
use Rattle.kernel_boot.proofs.store.add_tcbs.Goals as goal

pub loop-i-preserved : goal.loop-i-preserved
loop-i-preserved g c =
    range_added (λ i. Tcb (tcb_place g.P.Profile.profile c.args.plan.now i)) c.args.caps.now.items _ _ c.loop-i.i (Tcb c.tcb_place.result) c.loop-i.invariant c.in_ok-push.ensures.items (ap Tcb c.tcb_place.ensures)
