-- The slots still to be looked at, as a chain inside a table of links.
use Rattle.std.specs.Prelude.{◌≡◌, ℕ, ◌*◌, List, [], ◌∷◌, map, length, get_or}
use Rattle.std.specs.Prelude.{Option, Some, None, MatchOption}
use Rattle.cap_core.specs.declared.profile.ProfileName.{ProfileName}
pub use Rattle.cap_core.specs.Links.{walk}
use Rattle.cap_core.specs.Numbers.{slot_size}
use Rattle.slot_core.specs.declared.slot.Slot.{Slot}
pub use Rattle.slot_core.specs.Links.{place_in}
use Rattle.slot_core.specs.Places.{address_of}
use Rattle.kernel_delete.specs.Members.{AreDistinct, AreBelow}

-- where the link of a slot leads, each slot by its place
abbrev pub next_of : List (Option Slot) → ℕ → Option ℕ
next_of links i = place_in (get_or links i None)

-- from here the links lead along the list, to its end
abbrev pub IsChain : (ℕ → Option ℕ) → Option ℕ → List ℕ → Type 0
IsChain next here [] = here ≡ None
IsChain next here (n ∷ l) = (here ≡ Some n) × IsChain next (next n) l

-- so many slots along the links
abbrev pub chained : List (Option Slot) → Option ℕ → List ℕ
chained links here = walk (next_of links) (length links) here

-- the links lead along a list in which no slot comes twice, and each has a link
pub record IsChained (links : List (Option Slot)) (here : Option ℕ) : Type 0 where
  pub chain : IsChain (next_of links) here (chained links here)
  pub distinct : AreDistinct (chained links here)
  pub below : AreBelow (length links) (chained links here)

-- the addresses of the slots, from the first on, and how many bytes the slots that have links fill
abbrev pub chain_seen : ProfileName → List (Option Slot) → Option Slot → List ℕ × ℕ
chain_seen p links first = (map (λ n. n * slot_size p) (chained links (place_in first)), length links * slot_size p)

-- the first of the slots is taken out, if there is one
abbrev pub IsTaken : ProfileName → List ℕ → List ℕ → Option Slot → Type 0
IsTaken p old new slot = MatchOption slot ((old ≡ []) × (new ≡ [])) (λ s. old ≡ address_of p s ∷ new)
