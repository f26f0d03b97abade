-- These serve the proofs of private functions, no public contract cites them: what holds of the store of every kernel.
use Rattle.std.specs.Prelude.{ℕ, ◌≤◌, ◌==◌, All}
use Rattle.std.specs.List.{IsDistinct}
use Rattle.cap_core.specs.Limits.{max_memory_bits}
use Rattle.cap_core.specs.declared.profile.ProfileName.{ProfileName}
use Rattle.cap_core.specs.Objects.{IsLawful}
use Rattle.kernel_forest.specs.Forest.{Forest}
use Rattle.kernel_forest.specs.Entries.{Entry, slots, caps}
use Rattle.kernel_forest.specs.Disjoint.{IsDisjoint}
use Rattle.kernel_abstract.specs.Regions.{AreRegions}
use Rattle.kernel_abstract.specs.Memory.{IsSlotAddress}

-- what holds of the store of every kernel, by itself
pub record IsKernelStore (p : ProfileName) (memory : ℕ) (f : Forest Entry) : Type 0 where
  pub memory_most : memory ≤ max_memory_bits
  pub slots_distinct : IsDistinct (λ (a b : ℕ). a == b) (slots f)
  pub slots_placed : All (IsSlotAddress p memory) (slots f)
  pub lawful : All (IsLawful p memory) (caps f)
  pub disjoint : IsDisjoint p f
  pub regions : AreRegions p f
