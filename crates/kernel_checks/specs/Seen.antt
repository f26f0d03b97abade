-- Results of the code, with slots by their addresses.
use Rattle.std.specs.Prelude.{ℕ, Result, Ok, Err}
use Rattle.cap_core.specs.declared.profile.ProfileName.{ProfileName}
use Rattle.slot_core.specs.declared.slot.Slot.{Slot}
use Rattle.slot_core.specs.Places.{address_of}
use Rattle.cspace_core.specs.Bits.{low_bits}
use Rattle.cspace_core.specs.Resolution.{Choice, Found}
use Rattle.kernel_abstract.specs.declared.reason.Miss.{Miss}

-- with whatever is answered if a check fails
abbrev pub slot_seen : {E : Type 0} → ProfileName → Result Slot E → Result ℕ E
slot_seen p (Ok slot) = Ok (address_of p slot)
slot_seen p (Err failure) = Err failure

abbrev pub found_seen : ProfileName → Result (Slot × ℕ) Miss → Result Found Miss
found_seen p (Ok r) = Ok (record { slot = address_of p r.0; left = r.1 })
found_seen p (Err miss) = Err miss

abbrev pub choice_seen : ProfileName → ℕ → Result (Slot × ℕ) Miss → Result Choice Miss
choice_seen p word (Ok r) = Ok (record { slot = address_of p r.0; left = low_bits r.1 word })
choice_seen p word (Err miss) = Err miss
