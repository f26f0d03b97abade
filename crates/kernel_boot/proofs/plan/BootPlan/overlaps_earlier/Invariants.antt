-- The proof of `overlaps_earlier`: what holds at each turn of its loop.
use Rattle.std.proofs.Common.{◌≡◌, false}
use Rattle.kernel_abstract.specs.Plan.{overlaps_earlier}
use Rattle.kernel_boot.proofs.plan.BootPlan.overlaps_earlier.Given as goal

-- no region before the one at i overlaps
abbrev pub invariant-loop-i : goal.invariant-loop-i
invariant-loop-i g l = overlaps_earlier l.self l.i l.region ≡ false
