-- The proof of `keeps_objects`: the goals that a search leaves open.
use Rattle.std.proofs.Common.{subst}
use Rattle.kernel_delete.specs.Housed.{IsHoused}
use Rattle.kernel_abstract.specs.Shown.{Shown}
use Rattle.kernel_abstract.specs.Regions.{AreObjectsApart}
use Rattle.kernel_core.proofs.kernel.Kernel.keeps_objects.Goals as goal

pub returns : goal.returns
returns g c = record {
  apart = subst (λ (v : Shown). AreObjectsApart g.P.Profile.profile v.derivations) c.self.view_is
      (record { disjoint = c.self.invariant.kernel.disjoint; used = c.self.invariant.kernel.regions.used });
  housed = subst (λ (v : Shown). IsHoused g.P.Profile.profile v.derivations) c.self.view_is c.self.invariant.kernel.housed;
}
