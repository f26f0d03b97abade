use Rattle.std.proofs.Common.{◌≡◌, ℕ, ◌<◌, ◌≤◌}
use Rattle.cap_core.specs.Numbers.{word_bits}
use Rattle.kernel_forest.specs.Entries.{cap_at}
use Rattle.slot_core.specs.Places.{address_of}
use Rattle.cspace_core.specs.Bits.{low_bits}
use Rattle.kernel_abstract.specs.Lookups.{walked_within, walked}
use Rattle.kernel_checks.proofs.walk.walk.Given as goal

abbrev pub invariant-loop-slot : goal.invariant-loop-slot
invariant-loop-slot g l = record {
  within : l.left ≤ word_bits g.P.Profile.profile;
  value : (most : ℕ) × ((l.left < most) × (walked_within g.P.Profile.profile (cap_at (g.S.CapStore.forest l.store)) most (address_of g.P.Profile.profile l.at) (low_bits l.left l.address)
      ≡ walked g.P.Profile.profile (cap_at (g.S.CapStore.forest l.store)) (address_of g.P.Profile.profile l.fn.root) (low_bits l.fn.bits l.fn.address)));
}

abbrev pub decreases-loop-slot : goal.decreases-loop-slot
decreases-loop-slot g l = l.left
