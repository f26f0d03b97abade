-- What lies in a memory: where its slots stand, and which objects they name.
use Rattle.std.specs.Prelude.{◌≡◌, ℕ, ◌%◌, ◌^◌, ◌<◌, All}
use Rattle.cap_core.specs.declared.profile.ProfileName.{ProfileName}
use Rattle.cap_core.specs.Numbers.{slot_size}
use Rattle.cap_core.specs.Objects.{IsLawful}
use Rattle.kernel_forest.specs.Entries.{slots, caps}
use Rattle.kernel_abstract.specs.Shown.{Shown}

-- a multiple of a slot's size
abbrev pub IsAligned : ProfileName → ℕ → Type 0
IsAligned p address = address % slot_size p ≡ 0

-- an address at which a slot can stand
pub record IsSlotAddress (p : ProfileName) (memory address : ℕ) : Type 0 where
  pub aligned : address % slot_size p ≡ 0
  pub within : address < 2 ^ memory

-- what a kernel shows lies in a memory of 2^memory bytes: its slots, and the objects that they name
pub record IsInMemory (p : ProfileName) (memory : ℕ) (v : Shown) : Type 0 where
  pub slots_placed : All (IsSlotAddress p memory) (slots v.derivations)
  pub lawful : All (IsLawful p memory) (caps v.derivations)
