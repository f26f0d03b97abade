-- The same as a relation: the guards and the indices of the CNodes that are passed follow one another in the bits.
use Rattle.std.specs.Prelude.{ℕ, ◌≡◌, ◌≢◌, ◌<◌, true, false, List, ◌++◌, length, Result, Ok, Err}
use Rattle.std.specs.Int.Digits.{number_from_digits}
use Rattle.cap_core.specs.declared.profile.ProfileName.{ProfileName}
use Rattle.cap_core.specs.declared.capability.Guard.{Guard}
use Rattle.cap_core.specs.declared.capability.Cap.{Cap}
use Rattle.cap_core.specs.declared.capability.Cap.TheVariants.{CNode}
use Rattle.cap_core.specs.declared.refusal.LookupFault.{LookupFault}
use Rattle.cap_core.specs.declared.refusal.LookupFault.TheVariants.{InvalidRoot, DepthMismatch, GuardMismatch}
use Rattle.cspace_core.specs.Resolution.{Choice, Found, is_cnode, guard_bits, slot_of}

-- what one capability makes of the bits
pub data Chooses (p : ProfileName) (cap : Cap) (bits : List ℕ) : Result Choice LookupFault → Type 0 where
  invalid_root : is_cnode cap ≡ false → Chooses p cap bits (Err InvalidRoot)
  guard_mismatch : (base radix : ℕ) (guard : Guard) → cap ≡ CNode base radix guard →
      ((rest : List ℕ) → bits ≢ guard_bits guard ++ rest) → Chooses p cap bits (Err GuardMismatch)
  depth_mismatch : (base radix : ℕ) (guard : Guard) (rest : List ℕ) → cap ≡ CNode base radix guard →
      bits ≡ guard_bits guard ++ rest → length rest < radix → Chooses p cap bits (Err DepthMismatch)
  chooses : (base radix : ℕ) (guard : Guard) (index left : List ℕ) → cap ≡ CNode base radix guard →
      bits ≡ guard_bits guard ++ (index ++ left) → length index ≡ radix →
      Chooses p cap bits (Ok (record { slot = slot_of p base (number_from_digits 2 index); left = left }))

-- the slot that bits lead to, and how many are left: the first one at which the bits end, or which holds no CNode
pub data Resolves (p : ProfileName) (cap_in : ℕ → Cap) : Cap → List ℕ → Result Found LookupFault → Type 0 where
  refused : (root : Cap) (bits : List ℕ) (fault : LookupFault) →
      Chooses p root bits (Err fault) → Resolves p cap_in root bits (Err fault)
  ends : (root : Cap) (bits : List ℕ) (c : Choice) →
      Chooses p root bits (Ok c) → length c.left ≡ 0 →
      Resolves p cap_in root bits (Ok (record { slot = c.slot; left = 0 }))
  stops : (root : Cap) (bits : List ℕ) (c : Choice) →
      Chooses p root bits (Ok c) → is_cnode (cap_in c.slot) ≡ false →
      Resolves p cap_in root bits (Ok (record { slot = c.slot; left = length c.left }))
  goes_on : (root : Cap) (bits : List ℕ) (c : Choice) (result : Result Found LookupFault) →
      Chooses p root bits (Ok c) → 0 < length c.left → is_cnode (cap_in c.slot) ≡ true →
      Resolves p cap_in (cap_in c.slot) c.left result → Resolves p cap_in root bits result
