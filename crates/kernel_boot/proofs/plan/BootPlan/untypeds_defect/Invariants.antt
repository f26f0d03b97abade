-- The proof of `untypeds_defect`: what holds at each turn of its loop.
use Rattle.std.proofs.Common.{◌≡◌, drop}
use Rattle.kernel_abstract.specs.Plan.{untypeds_defect}
use Rattle.kernel_boot.proofs.plan.BootPlan.untypeds_defect.Given as goal

-- the regions before `place` have no defect
abbrev pub invariant-loop-place : goal.invariant-loop-place
invariant-loop-place g l =
    untypeds_defect g.P.Profile.profile l.self l.place (drop l.place l.self.untypeds) ≡ untypeds_defect g.P.Profile.profile l.self 0 l.self.untypeds
