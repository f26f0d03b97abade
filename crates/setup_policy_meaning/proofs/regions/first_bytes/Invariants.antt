use Rattle.std.proofs.Common.{◌≡◌, drop}
use Rattle.setup_policy_meaning.specs.Regions.{first_bytes}
use Rattle.setup_policy_meaning.proofs.regions.first_bytes.Given as goal

abbrev pub invariant-loop-region : goal.invariant-loop-region
invariant-loop-region l = first_bytes l.bits (drop l.region-index l.regions) ≡ first_bytes l.bits l.regions
