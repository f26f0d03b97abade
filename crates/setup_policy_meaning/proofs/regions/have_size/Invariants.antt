use Rattle.std.proofs.Common.{◌≡◌, true, take}
use Rattle.setup_policy_meaning.specs.Regions.{have_size}
use Rattle.setup_policy_meaning.proofs.regions.have_size.Given as goal

abbrev pub invariant-loop-region : goal.invariant-loop-region
invariant-loop-region l = have_size l.bits (take l.region-index l.regions) ≡ true
