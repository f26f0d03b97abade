-- Full slots as the code keeps them.
use Rattle.std.specs.Prelude.{ℕ}
use Rattle.cap_core.specs.declared.profile.ProfileName.{ProfileName}
use Rattle.slot_core.specs.declared.derivations.Derivation.{Derivation}
use Rattle.slot_core.specs.Places.{address_of}

-- the address of a full slot
abbrev pub slot_address : ProfileName → Derivation → ℕ
slot_address p d = address_of p d.slot
