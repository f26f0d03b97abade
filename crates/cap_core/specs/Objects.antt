-- Objects, their ranges of addresses, and what makes a capability lawful.
use Rattle.std.specs.Prelude.{◌≡◌, ℕ, Bool, true, false, ◌+◌, ◌%◌, ◌^◌, ◌<◌, ◌≤◌, ◌==◌, ◌&&◌, ◌||◌, not, nat_le, ⊤}
use Rattle.cap_core.specs.declared.profile.ProfileName.{ProfileName}
use Rattle.cap_core.specs.declared.capability.Guard.{Guard}
use Rattle.cap_core.specs.declared.capability.Cap.{Cap}
use Rattle.cap_core.specs.declared.capability.Cap.TheVariants.{Null, Untyped, Endpoint, CNode, Tcb}
use Rattle.cap_core.specs.Numbers.{word_bits, slot_bits, tcb_bits, endpoint_bits, min_untyped_bits, max_object_bits}

-- whether a capability is the null capability, which names no object
abbrev pub is_null : Cap → Bool
is_null Null = true
is_null _ = false

-- whether a capability is one of an untyped region
abbrev pub is_untyped : Cap → Bool
is_untyped (Untyped base bits free) = true
is_untyped _ = false

-- the badge of a capability, 0 if it has none
abbrev pub badge_of : Cap → ℕ
badge_of (Endpoint base badge rights) = badge.0
badge_of _ = 0

-- the address of the first byte of the object that a capability names
abbrev pub base_of : Cap → ℕ
base_of Null = 0
base_of (Untyped base bits free) = base
base_of (Endpoint base badge rights) = base
base_of (CNode base radix guard) = base
base_of (Tcb base) = base

-- the bits of that object's size in bytes
abbrev pub bits_of : ProfileName → Cap → ℕ
bits_of p Null = 0
bits_of p (Untyped base bits free) = bits
bits_of p (Endpoint base badge rights) = endpoint_bits p
bits_of p (CNode base radix guard) = slot_bits p + radix
bits_of p (Tcb base) = tcb_bits p

-- the first address past that object
abbrev pub end_of : ProfileName → Cap → ℕ
end_of p cap = base_of cap + 2 ^ bits_of p cap

-- both name the same object, which is not an untyped region
abbrev pub same_object : Cap → Cap → Bool
same_object (Endpoint a badge rights) (Endpoint b badge' rights') = a == b
same_object (CNode a radix guard) (CNode b radix' guard') = a == b && radix == radix'
same_object (Tcb a) (Tcb b) = a == b
same_object _ _ = false

-- the range of b's object lies within that of a's
abbrev pub contains : ProfileName → Cap → Cap → Bool
contains p a b = nat_le (base_of a) (base_of b) && nat_le (end_of p b) (end_of p a)

-- the ranges of both objects have no address in common
abbrev pub are_apart : ProfileName → Cap → Cap → Bool
are_apart p a b = nat_le (end_of p a) (base_of b) || nat_le (end_of p b) (base_of a)

-- b lies in a's region: within the range of an untyped a, and otherwise it names the same object. Null names none
abbrev pub in_region : ProfileName → Cap → Cap → Bool
in_region p (Untyped base bits free) b = not (is_null b) && contains p (Untyped base bits free) b
in_region p a b = same_object a b

-- the object stands at a multiple of its size, within a memory of 2^memory bytes, and its addresses are words
pub record IsPlaced (p : ProfileName) (memory : ℕ) (cap : Cap) : Type 0 where
  pub aligned : base_of cap % 2 ^ bits_of p cap ≡ 0
  pub within : end_of p cap ≤ 2 ^ memory
  pub addressed : end_of p cap ≤ 2 ^ word_bits p

-- a guard's value has its size's bits, and guard and radix together are no longer than a word
pub record IsLawfulNode (p : ProfileName) (radix : ℕ) (guard : Guard) : Type 0 where
  pub some : 1 ≤ radix
  pub both : guard.size + radix ≤ word_bits p
  pub cut : guard.value < 2 ^ guard.size

pub record IsLawfulUntyped (p : ProfileName) (bits free : ℕ) : Type 0 where
  pub least : min_untyped_bits p ≤ bits
  pub most : bits ≤ max_object_bits p
  pub free_within : free ≤ 2 ^ bits

-- what a capability holds is within the profile
abbrev pub IsWithinProfile : ProfileName → Cap → Type 0
IsWithinProfile p (Untyped base bits free) = IsLawfulUntyped p bits free
IsWithinProfile p (CNode base radix guard) = IsLawfulNode p radix guard
IsWithinProfile p _ = ⊤

-- a capability other than Null that a slot of a memory of 2^memory bytes may hold
pub record IsLawful (p : ProfileName) (memory : ℕ) (cap : Cap) : Type 0 where
  pub full : is_null cap ≡ false
  pub placed : IsPlaced p memory cap
  pub holds : IsWithinProfile p cap
