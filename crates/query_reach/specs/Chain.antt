-- Chains of full slots: from a slot to a capability that is sought. Each slot after the first one is a slot that the capability
-- before it gives hold of.
use Rattle.std.specs.Prelude.{◌≡◌, ◌≤◌, ℕ, ◌+◌, ◌&&◌, ◌||◌, nat_le, nat_lt, Bool, true, false, not, List, [], ◌∷◌, length}
use Rattle.cap_core.specs.declared.profile.ProfileName.{ProfileName}
use Rattle.cap_core.specs.declared.capability.Cap.{Cap}
use Rattle.cap_core.specs.declared.capability.Cap.TheVariants.{Null, Untyped, Endpoint, CNode, Tcb}
use Rattle.cap_core.specs.Objects.{is_null, base_of, end_of}
use Rattle.cap_core.specs.Rights.{write_bit}
use Rattle.kernel_abstract.specs.Decode.{has_right}
use Rattle.kernel_forest.specs.Forest.{Forest}
use Rattle.kernel_forest.specs.Entries.{Entry, cap_at, is_full}
use Rattle.query_reach.specs.declared.filled.FullSlot.{FullSlot}
use Rattle.query_reach.specs.declared.chains.chain.Target.{Target}

-- the object that a capability names has an address
abbrev pub has_address : ProfileName → Cap → ℕ → Bool
has_address p cap address = not (is_null cap) && (nat_le (base_of cap) address && nat_lt address (end_of p cap))

-- the object that a capability names has some of `size` addresses from `first` on
abbrev pub has_some_of : ProfileName → ℕ → ℕ → Cap → Bool
has_some_of p first size cap = not (is_null cap) && (nat_lt (base_of cap) (first + size) && nat_lt first (end_of p cap))

-- a capability may be sent by: an endpoint's has Write, and others need no right
abbrev pub may_send_by : Cap → Bool
may_send_by (Endpoint base badge rights) = has_right write_bit rights
may_send_by _ = true

-- a capability is one that is sought
abbrev pub is_sought : ProfileName → Target → Cap → Bool
is_sought p target cap = has_some_of p target.first target.size cap && (not target.to_send || may_send_by cap)

-- a capability gives hold of a slot: of each slot of its CNode, of the root slot of its thread, of each slot in its region
abbrev pub gives : ProfileName → Cap → ℕ → Bool
gives p Null slot = false
gives p (Untyped base bits free) slot = has_address p (Untyped base bits free) slot
gives p (Endpoint base badge rights) slot = false
gives p (CNode base radix guard) slot = has_address p (CNode base radix guard) slot
gives p (Tcb base) slot = has_address p (Tcb base) slot

-- a full slot, with what it holds
pub record IsFullSlot (f : Forest Entry) (s : FullSlot) : Type 0 where
  pub full : is_full s.address f ≡ true
  pub holds : s.cap ≡ cap_at f s.address

-- a full slot and those after it: each gives hold of the next one, and the last one is sought
abbrev pub LeadsOn : ProfileName → Forest Entry → Target → FullSlot → List FullSlot → Type 0
LeadsOn p f target s [] = IsFullSlot f s × (is_sought p target s.cap ≡ true)
LeadsOn p f target s (t ∷ more) = IsFullSlot f s × ((gives p s.cap t.address ≡ true) × LeadsOn p f target t more)

-- a chain begins with the slot at an address
abbrev pub IsChain : ProfileName → Forest Entry → Target → ℕ → List FullSlot → Type 0
IsChain p f target root [] = ⊥
IsChain p f target root (s ∷ more) = (s.address ≡ root) × LeadsOn p f target s more

-- a chain that is no longer than another one, or nothing if there is no chain
abbrev pub IsShortest : ProfileName → Forest Entry → Target → ℕ → List FullSlot → Type 0
IsShortest p f target root [] = (other : List FullSlot) → IsChain p f target root other → ⊥
IsShortest p f target root (s ∷ more) =
    IsChain p f target root (s ∷ more)
    × ((other : List FullSlot) → IsChain p f target root other → length (s ∷ more) ≤ length other)
