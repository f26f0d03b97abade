-- The slots of objects.
use Rattle.std.specs.Prelude.{ℕ, zero, suc, ◌+◌, ◌^◌, List, [], ◌∷◌}
use Rattle.cap_core.specs.declared.profile.ProfileName.{ProfileName}
use Rattle.cap_core.specs.declared.capability.Cap.{Cap}
use Rattle.cap_core.specs.declared.capability.Cap.TheVariants.{Null, Untyped, Endpoint, CNode, Tcb}
use Rattle.cap_core.specs.Numbers.{slot_size}

-- so many addresses from the first on, each `size` past the one before it
abbrev pub addresses : ℕ → ℕ → ℕ → List ℕ
addresses size first zero = []
addresses size first (suc count) = first ∷ addresses size (first + size) count

-- the slots of the object that a capability names, by rising address: a thread control block has one, at its own
-- address, and a CNode 2^radix
unfoldable pub slots_of : ProfileName → Cap → List ℕ
slots_of p Null = []
slots_of p (Untyped base bits free) = []
slots_of p (Endpoint base badge rights) = []
slots_of p (CNode base radix guard) = addresses (slot_size p) base (2 ^ radix)
slots_of p (Tcb base) = base ∷ []
