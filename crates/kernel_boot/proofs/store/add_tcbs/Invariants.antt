-- The proof of `add_tcbs`: what holds at each turn of its loop.
use Rattle.std.proofs.Common.{◌≡◌, ◌++◌, map}
use Rattle.std.specs.List.{range_with_len}
use Rattle.cap_core.specs.declared.capability.Cap.TheVariants.{Tcb}
use Rattle.kernel_abstract.specs.Plan.{tcb_place}
use Rattle.kernel_boot.proofs.store.add_tcbs.Given as goal

abbrev pub invariant-loop-i : goal.invariant-loop-i
invariant-loop-i g l = l.caps.items ≡ l.initial.caps.items ++ map (λ i. Tcb (tcb_place g.P.Profile.profile l.plan i)) (range_with_len 0 l.i)
