use Rattle.std.proofs.Common.{◌≡◌, ℕ, ◌<◌, ◌≤◌, ◌++◌}
use Rattle.cap_core.specs.Numbers.{word_bits}
use Rattle.kernel_forest.specs.Entries.{cap_at}
use Rattle.slot_core.specs.Places.{address_of}
use Rattle.cspace_core.specs.Bits.{low_bits}
use Rattle.kernel_checks.specs.Paths.{path_within, path}
use Rattle.kernel_checks.proofs.paths.path.Given as goal

abbrev pub invariant-loop-path : goal.invariant-loop-path
invariant-loop-path g l = record {
  within : l.left ≤ word_bits g.P.Profile.profile;
  value : (most : ℕ) × ((l.left < most) × (l.path.items ++ path_within g.P.Profile.profile (cap_at (g.S.CapStore.forest l.store)) most (address_of g.P.Profile.profile l.at) (low_bits l.left l.address)
      ≡ path g.P.Profile.profile (cap_at (g.S.CapStore.forest l.store)) (address_of g.P.Profile.profile l.fn.root) (low_bits l.fn.bits l.fn.address)));
}

abbrev pub decreases-loop-path : goal.decreases-loop-path
decreases-loop-path g l = l.left
