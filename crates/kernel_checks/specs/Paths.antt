-- The way that a lookup goes: the slots that it comes to, each with what is in it.
use Rattle.std.specs.Prelude.{ℕ, zero, suc, cond, not, ◌==◌, ◌&&◌, List, [], ◌∷◌, length, Result, Ok, Err}
use Rattle.cap_core.specs.declared.profile.ProfileName.{ProfileName}
use Rattle.cap_core.specs.declared.capability.Cap.{Cap}
use Rattle.cspace_core.specs.Resolution.{Choice, is_cnode}
use Rattle.kernel_abstract.specs.declared.reason.Held.{Held}
use Rattle.kernel_abstract.specs.declared.reason.Miss.{Miss}
use Rattle.kernel_abstract.specs.Reasons.{held_at}
use Rattle.kernel_abstract.specs.Lookups.{chosen}

-- after a CNode comes what it chooses, and the way goes on from there if that is a CNode and bits are left
abbrev pub path_on : (ℕ → Cap) → (ℕ → List ℕ → List Held) → Result Choice Miss → List Held
path_on cap_in there (Err miss) = []
path_on cap_in there (Ok c) =
    cond (is_cnode (cap_in c.slot) && not (length c.left == 0)) (there c.slot c.left) (held_at cap_in c.slot ∷ [])

-- the way of bits from a slot on, which looks at no more than `most` capabilities
unfoldable pub path_within : ProfileName → (ℕ → Cap) → ℕ → ℕ → List ℕ → List Held
path_within p cap_in zero slot bits = held_at cap_in slot ∷ []
path_within p cap_in (suc most) slot bits =
    held_at cap_in slot ∷ path_on cap_in (path_within p cap_in most) (chosen p slot (cap_in slot) bits)

-- the slot at which a lookup of bits begins, and each slot that it comes to: the last is where it ends or fails
unfoldable pub path : ProfileName → (ℕ → Cap) → ℕ → List ℕ → List Held
path p cap_in slot bits = path_within p cap_in (suc (length bits)) slot bits
