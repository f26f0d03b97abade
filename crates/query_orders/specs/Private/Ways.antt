-- The object at the end of a way that a lookup goes.
use Rattle.std.specs.Prelude.{ℕ, ◌-◌, List, [], ◌∷◌, length, Option, None, Some, slice_get}
use Rattle.cap_core.specs.declared.capability.Cap.{Cap}
use Rattle.kernel_abstract.specs.declared.reason.Held.{Held}

-- the address of an object, by what tells it of a capability
abbrev pub base_held : (Cap → Option ℕ) → Option Held → Option ℕ
base_held base_of None = None
base_held base_of (Some held) = base_of held.cap

-- of the object whose capability the last slot holds
abbrev pub base_last : (Cap → Option ℕ) → List Held → Option ℕ
base_last base_of way = base_held base_of (slice_get way (length way - 1))

-- and where that is behind the root
abbrev pub base_behind : (Cap → Option ℕ) → List Held → Option ℕ
base_behind base_of [] = None
base_behind base_of (root ∷ way) = base_last base_of way
