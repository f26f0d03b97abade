use Rattle.std.proofs.Common.{◌≡◌, ◌+◌, ◌-◌, ◌≤◌}
use Rattle.cap_core.specs.Numbers.{word_bits}
use Rattle.kernel_forest.specs.Entries.{cap_at}
use Rattle.slot_core.specs.Places.{address_of}
use Rattle.kernel_checks.specs.Hints.{depth_from, depth_hint}
use Rattle.kernel_checks.proofs.hints.depth_hint.Given as goal

abbrev pub invariant-loop-depth : goal.invariant-loop-depth
invariant-loop-depth g l = record {
  within : l.depth ≤ word_bits g.P.Profile.profile + 1;
  value : depth_from g.P.Profile.profile (cap_at (g.S.CapStore.forest l.store)) (address_of g.P.Profile.profile l.root) l.index l.depth (word_bits g.P.Profile.profile + 1 - l.depth)
      ≡ depth_hint g.P.Profile.profile (cap_at (g.S.CapStore.forest l.store)) (address_of g.P.Profile.profile l.root) l.index;
}

abbrev pub decreases-loop-depth : goal.decreases-loop-depth
decreases-loop-depth g l = word_bits g.P.Profile.profile + 1 - l.depth
