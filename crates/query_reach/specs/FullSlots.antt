-- The full slots of a derivation forest as a list, by rising addresses.
use Rattle.std.specs.Prelude.{◌≡◌, ℕ, ◌<◌, ◌⊎◌, true, List, Some, slice_get}
use Rattle.cap_core.specs.declared.profile.ProfileName.{ProfileName}
use Rattle.cap_core.specs.declared.capability.Cap.TheVariants.{Null}
use Rattle.cap_core.specs.Numbers.{word_bits}
use Rattle.cap_core.specs.Objects.{IsLawful}
use Rattle.kernel_forest.specs.Forest.{Forest}
use Rattle.kernel_forest.specs.Entries.{Entry, cap_at, is_full}
use Rattle.query_reach.specs.declared.filled.FullSlot.{FullSlot}

-- all full slots of a forest, each with what it holds
pub record AreFullSlots (f : Forest Entry) (filled : List FullSlot) : Type 0 where
  pub holds : (k : ℕ) (u : FullSlot) → slice_get filled k ≡ Some u → u.cap ≡ cap_at f u.address
  pub full : (k : ℕ) (u : FullSlot) → slice_get filled k ≡ Some u → is_full u.address f ≡ true
  pub all : (slot : ℕ) → is_full slot f ≡ true → (k : ℕ) × ((u : FullSlot) × ((slice_get filled k ≡ Some u) × (u.address ≡ slot)))

-- each of the capabilities is one that a slot may hold
abbrev pub AreLawful : ProfileName → List FullSlot → Type 0
AreLawful p filled = (k : ℕ) (u : FullSlot) → slice_get filled k ≡ Some u → (u.cap ≡ Null) ⊎ IsLawful p (word_bits p) u.cap

-- the addresses of full slots rise
abbrev pub AreRising : List FullSlot → Type 0
AreRising filled =
    (i j : ℕ) (u v : FullSlot) → i < j → slice_get filled i ≡ Some u → slice_get filled j ≡ Some v → u.address < v.address
