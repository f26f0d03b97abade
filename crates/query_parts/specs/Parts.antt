-- Parts of the memory, and a bound on what stands in the slots of each.
use Rattle.std.specs.Prelude.{◌≡◌, ℕ, ◌≤◌, ◌<◌, ◌⊎◌, ⊤, Option, Some, List}
use Rattle.std.specs.List.{Contains}
use Rattle.cap_core.specs.declared.profile.ProfileName.{ProfileName}
use Rattle.cap_core.specs.declared.capability.Badge.{Badge}
use Rattle.cap_core.specs.declared.capability.Cap.{Cap}
use Rattle.cap_core.specs.declared.capability.Cap.TheVariants.{Null, Untyped, Endpoint, CNode, Tcb}
use Rattle.cap_core.specs.declared.rights.Rights.{Rights}
use Rattle.cap_core.specs.Minting.{HasRight}
use Rattle.cap_core.specs.Objects.{base_of, end_of}
use Rattle.kernel_forest.specs.Forest.{Forest}
use Rattle.kernel_forest.specs.Entries.{Entry, cap_at}

-- an endpoint that a part may use: with this badge, or with any if it is 0, and with these rights at most
pub record Use : Type 0 where
  pub endpoint : ℕ
  pub badge : Badge
  pub rights : Rights

-- the part in whose memory an address lies, by its number, and the endpoints that each part may use
pub record Parts : Type 0 where
  pub part_of : ℕ → Option ℕ
  pub uses : ℕ → List Use

-- every address of the object that a capability names lies in the part's memory
abbrev pub IsOwned : ProfileName → Parts → ℕ → Cap → Type 0
IsOwned p parts i cap = (address : ℕ) → base_of cap ≤ address → address < end_of p cap → parts.part_of address ≡ Some i

-- each of these rights is among those
abbrev pub AreAmong : Rights → Rights → Type 0
AreAmong few many = (right : ℕ) → HasRight few right → HasRight many right

-- a use allows an endpoint capability
pub record Covers (u : Use) (base : ℕ) (badge : Badge) (rights : Rights) : Type 0 where
  pub endpoint_is : u.endpoint ≡ base
  pub badge_fits : (u.badge.0 ≡ badge.0) ⊎ (u.badge.0 ≡ 0)
  pub rights_fit : AreAmong rights u.rights

abbrev pub IsCovered : Parts → ℕ → ℕ → Badge → Rights → Type 0
IsCovered parts i base badge rights = (u : Use) × (Contains (parts.uses i) u × Covers u base badge rights)

-- what may stand in a slot of a part: its own objects, and the endpoints that it may use
abbrev pub IsWithin : ProfileName → Parts → ℕ → Cap → Type 0
IsWithin p parts i Null = ⊤
IsWithin p parts i (Untyped base bits free) = IsOwned p parts i (Untyped base bits free)
IsWithin p parts i (Endpoint base badge rights) = IsOwned p parts i (Endpoint base badge rights) ⊎ IsCovered parts i base badge rights
IsWithin p parts i (CNode base radix guard) = IsOwned p parts i (CNode base radix guard)
IsWithin p parts i (Tcb base) = IsOwned p parts i (Tcb base)

-- each slot of the part's memory holds nothing, or what may stand there
abbrev pub IsClosed : ProfileName → Parts → ℕ → Forest Entry → Type 0
IsClosed p parts i f = (slot : ℕ) → parts.part_of slot ≡ Some i → IsWithin p parts i (cap_at f slot)

-- each slot outside the part's memory holds what it held, or nothing
abbrev pub IsUntouched : Parts → ℕ → Forest Entry → Forest Entry → Type 0
IsUntouched parts i before after =
    (slot : ℕ) → (parts.part_of slot ≡ Some i → ⊥) → (cap_at after slot ≡ cap_at before slot) ⊎ (cap_at after slot ≡ Null)

-- what a part may take from slots outside it: the object lies in the part's memory, or is an endpoint that the part may use
abbrev pub IsNear : ProfileName → Parts → ℕ → Cap → Type 0
IsNear p parts i Null = ⊤
IsNear p parts i (Untyped base bits free) = IsOwned p parts i (Untyped base bits free)
IsNear p parts i (Endpoint base badge rights) =
    IsOwned p parts i (Endpoint base badge rights) ⊎ ((u : Use) × (Contains (parts.uses i) u × (u.endpoint ≡ base)))
IsNear p parts i (CNode base radix guard) = IsOwned p parts i (CNode base radix guard)
IsNear p parts i (Tcb base) = IsOwned p parts i (Tcb base)

-- each slot outside the part's memory holds what it held, or that was what the part may take
abbrev pub IsSpared : ProfileName → Parts → ℕ → Forest Entry → Forest Entry → Type 0
IsSpared p parts i before after =
    (slot : ℕ) → (parts.part_of slot ≡ Some i → ⊥) →
    (cap_at after slot ≡ cap_at before slot) ⊎ IsNear p parts i (cap_at before slot)
