-- Resolution of an address in a capability space, bit by bit (seL4 Reference Manual, on capability space addressing).
use Rattle.std.specs.Prelude.{ℕ, zero, suc, ◌+◌, ◌*◌, Bool, true, false, cond, not, nat_lt, ◌==◌, ◌&&◌, List, length, take, drop, Option, Some, None, Result, Ok, Err}
use Rattle.std.specs.Int.Digits.{number_from_digits}
use Rattle.cap_core.specs.declared.profile.ProfileName.{ProfileName}
use Rattle.cap_core.specs.declared.capability.Guard.{Guard}
use Rattle.cap_core.specs.declared.capability.Cap.{Cap}
use Rattle.cap_core.specs.declared.capability.Cap.TheVariants.{CNode}
use Rattle.cap_core.specs.declared.refusal.LookupFault.{LookupFault}
use Rattle.cap_core.specs.declared.refusal.LookupFault.TheVariants.{InvalidRoot, DepthMismatch, GuardMismatch}
use Rattle.cap_core.specs.Numbers.{slot_size}
use Rattle.slot_core.specs.declared.slot.Slot.{Slot}
use Rattle.slot_core.specs.Places.{address_of}
use Rattle.cspace_core.specs.Bits.{low_bits, after_front}

abbrev pub is_cnode : Cap → Bool
is_cnode (CNode base radix guard) = true
is_cnode _ = false

-- the slot that one CNode chooses, by its address, and the bits that are left
pub record Choice : Type 0 where
  pub slot : ℕ
  pub left : List ℕ

-- the slot that an address leads to, by its address, and how many bits are left
pub record Found : Type 0 where
  pub slot : ℕ
  pub left : ℕ

abbrev pub guard_bits : Guard → List ℕ
guard_bits guard = low_bits guard.size guard.value

-- slot i of a CNode
abbrev pub slot_of : ProfileName → ℕ → ℕ → ℕ
slot_of p base i = base + i * slot_size p

-- the next radix bits, read as a number, choose a slot
abbrev pub choice_by_radix : ProfileName → ℕ → ℕ → List ℕ → Result Choice LookupFault
choice_by_radix p base radix bits =
    cond (nat_lt (length bits) radix) (Err DepthMismatch)
    (Ok (record { slot = slot_of p base (number_from_digits 2 (take radix bits)); left = drop radix bits }))

-- the bits after the guard's are looked at, if the guard's come first
abbrev pub choice_after_guard : ProfileName → ℕ → ℕ → Option (List ℕ) → Result Choice LookupFault
choice_after_guard p base radix None = Err GuardMismatch
choice_after_guard p base radix (Some bits) = choice_by_radix p base radix bits

-- what a capability makes of the bits: a CNode compares its guard and then takes its radix
abbrev pub choice : ProfileName → Cap → List ℕ → Result Choice LookupFault
choice p (CNode base radix guard) bits = choice_after_guard p base radix (after_front (guard_bits guard) bits)
choice p _ bits = Err InvalidRoot

-- if bits are left and the slot holds a CNode, `there` goes on with both; else the slot is found
abbrev pub found_or : (ℕ → Cap) → (Cap → List ℕ → Result Found LookupFault) → Result Choice LookupFault → Result Found LookupFault
found_or cap_in there (Err fault) = Err fault
found_or cap_in there (Ok c) =
    cond (is_cnode (cap_in c.slot) && not (length c.left == 0)) (there (cap_in c.slot) c.left)
    (Ok (record { slot = c.slot; left = length c.left }))

-- resolution that looks at no more than `most` capabilities
unfoldable pub resolution_within : ProfileName → (ℕ → Cap) → ℕ → Cap → List ℕ → Result Found LookupFault
resolution_within p cap_in zero root bits = Err DepthMismatch
resolution_within p cap_in (suc most) root bits = found_or cap_in (resolution_within p cap_in most) (choice p root bits)

-- the slot that bits lead to from a root, where `cap_in` says what each slot holds. A CNode takes at least one bit, so
-- no more capabilities are looked at than there are bits, and one
unfoldable pub resolution : ProfileName → (ℕ → Cap) → Cap → List ℕ → Result Found LookupFault
resolution p cap_in root bits = resolution_within p cap_in (suc (length bits)) root bits

-- a result of the code, with its slot by its address
abbrev pub found : ProfileName → Result (Slot × ℕ) LookupFault → Result Found LookupFault
found p (Ok r) = Ok (record { slot = address_of p r.0; left = r.1 })
found p (Err fault) = Err fault

-- the same of what one CNode chooses, with the bits that are left by their number
abbrev pub choice_seen : ProfileName → ℕ → Result (Slot × ℕ) LookupFault → Result Choice LookupFault
choice_seen p word (Ok r) = Ok (record { slot = address_of p r.0; left = low_bits r.1 word })
choice_seen p word (Err fault) = Err fault
