-- Where slots stand.
use Rattle.std.specs.Prelude.{ℕ, ◌*◌}
use Rattle.cap_core.specs.declared.profile.ProfileName.{ProfileName}
use Rattle.cap_core.specs.Numbers.{slot_size}
use Rattle.slot_core.specs.declared.slot.Slot.{Slot}

-- the address of a slot's first byte
abbrev pub address_of : ProfileName → Slot → ℕ
address_of p slot = slot.place * slot_size p
