use Rattle.std.proofs.Common.{◌≡◌, ℕ, ◌<◌, ◌≤◌, ◌⊎◌, Result}
use Rattle.cap_core.specs.declared.capability.Cap.TheVariants.{Null}
use Rattle.cap_core.specs.declared.refusal.LookupFault.{LookupFault}
use Rattle.cap_core.specs.Numbers.{word_bits}
use Rattle.cap_core.specs.Objects.{IsLawful}
use Rattle.kernel_forest.specs.Entries.{cap_at}
use Rattle.cspace_core.specs.Bits.{low_bits}
use Rattle.cspace_core.specs.Resolution.{Found, resolution_within, resolution}
use Rattle.cspace_core.specs.Resolves.{Resolves}
use Rattle.cspace_core.proofs.resolve.Given as goal

abbrev pub invariant-loop-slot : goal.invariant-loop-slot
invariant-loop-slot g l = record {
  lawful : (l.cap ≡ Null) ⊎ IsLawful g.P.Profile.profile (g.S.CapStore.memory_bits l.store) l.cap;
  within : l.left ≤ word_bits g.P.Profile.profile;
  value : (most : ℕ) × ((l.left < most) × (resolution_within g.P.Profile.profile (cap_at (g.S.CapStore.forest l.store)) most l.cap (low_bits l.left l.address)
      ≡ resolution g.P.Profile.profile (cap_at (g.S.CapStore.forest l.store)) l.fn.root (low_bits l.fn.bits l.fn.address)));
  relation : (r : Result Found LookupFault) →
      Resolves g.P.Profile.profile (cap_at (g.S.CapStore.forest l.store)) l.cap (low_bits l.left l.address) r →
      Resolves g.P.Profile.profile (cap_at (g.S.CapStore.forest l.store)) l.fn.root (low_bits l.fn.bits l.fn.address) r;
}

abbrev pub decreases-loop-slot : goal.decreases-loop-slot
decreases-loop-slot g l = l.left
