-- The addresses of an object.
use Rattle.std.specs.Prelude.{ℕ, ◌<◌, ◌≤◌, cond, Option, Some, None}
use Rattle.cap_core.specs.declared.profile.ProfileName.{ProfileName}
use Rattle.cap_core.specs.declared.capability.Cap.{Cap}
use Rattle.cap_core.specs.declared.object.Range.{Range}
use Rattle.cap_core.specs.Objects.{is_null, base_of, bits_of, end_of}

-- the range of the object that a capability names; Null names none
abbrev pub range_named : ProfileName → Cap → Option Range
range_named p cap = cond (is_null cap) None (Some (record { first = base_of cap; bits = bits_of p cap }))

-- the address is one of the object's that a capability names
abbrev pub IsAddressOf : ProfileName → Cap → ℕ → Type 0
IsAddressOf p cap address = (base_of cap ≤ address) × (address < end_of p cap)
