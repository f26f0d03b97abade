-- The slot that an operation on a CNode names by an index and a depth (seL4 Reference Manual, on capability space addressing).
use Rattle.std.specs.Prelude.{ℕ, cond, nat_le, ◌==◌, ◌&&◌, Result, Ok, Err}
use Rattle.cap_core.specs.declared.profile.ProfileName.{ProfileName}
use Rattle.cap_core.specs.declared.capability.Cap.{Cap}
use Rattle.cap_core.specs.declared.refusal.LookupFault.{LookupFault}
use Rattle.cap_core.specs.declared.refusal.LookupFault.TheVariants.{InvalidRoot, DepthMismatch}
use Rattle.cap_core.specs.declared.refusal.Refusal.{Refusal}
use Rattle.cap_core.specs.declared.refusal.Refusal.TheVariants.{RangeError, FailedLookup}
use Rattle.cap_core.specs.Numbers.{word_bits}
use Rattle.slot_core.specs.declared.slot.Slot.{Slot}
use Rattle.slot_core.specs.Places.{address_of}
use Rattle.cspace_core.specs.Bits.{low_bits}
use Rattle.cspace_core.specs.Resolution.{Found, is_cnode, resolution}

-- the slot that is found, by its address, if no bits are left over
abbrev pub found_whole : Result Found LookupFault → Result ℕ Refusal
found_whole (Ok found) = cond (found.left == 0) (Ok found.slot) (Err (FailedLookup DepthMismatch))
found_whole (Err fault) = Err (FailedLookup fault)

-- the slot that the low `depth` bits of an index lead to: the root is looked at first, and then the depth
abbrev pub target_slot : ProfileName → (ℕ → Cap) → Cap → ℕ → ℕ → Result ℕ Refusal
target_slot p cap_in root index depth =
    cond (is_cnode root)
    (cond (nat_le 1 depth && nat_le depth (word_bits p)) (found_whole (resolution p cap_in root (low_bits depth index))) (Err RangeError))
    (Err (FailedLookup InvalidRoot))

-- a result of the code, with its slot by its address
abbrev pub target_seen : ProfileName → Result Slot Refusal → Result ℕ Refusal
target_seen p (Ok slot) = Ok (address_of p slot)
target_seen p (Err refusal) = Err refusal
