-- What may ever stand in which slots, if threads fill only slots that they can name.
use Rattle.std.specs.Prelude.{◌≡◌, ℕ, ◌+◌, ◌^◌, ◌≤◌, ◌⊎◌, true, false, Bool, bit_and}
use Rattle.cap_core.specs.declared.profile.ProfileName.{ProfileName}
use Rattle.cap_core.specs.declared.capability.Badge.{Badge}
use Rattle.cap_core.specs.declared.capability.Guard.{Guard}
use Rattle.cap_core.specs.declared.capability.Cap.{Cap}
use Rattle.cap_core.specs.declared.capability.Cap.TheVariants.{Null, Untyped, Endpoint, CNode, Tcb}
use Rattle.cap_core.specs.declared.rights.Rights.{Rights}
use Rattle.cap_core.specs.Numbers.{word_bits}
use Rattle.cap_core.specs.Objects.{base_of, end_of}
use Rattle.cspace_core.specs.Inside.{IsSlotOf}
use Rattle.kernel_forest.specs.Forest.{Forest}
use Rattle.kernel_forest.specs.Entries.{Entry, cap_at}

-- all slots in sets, by the set's number; what may stand in the slots of a set; which threads are trusted to make no calls but sends and
-- receives; and of the threads whose root slots lie in a set: in which sets their words may end, in which they may end at a CNode's
-- capability, and which they may fill and read by an index
pub record Flow : Type 0 where
  pub set_of : ℕ → ℕ
  pub may : ℕ → Cap → Bool
  pub trusted : ℕ → Bool
  pub names : ℕ → ℕ → Bool
  pub nodes : ℕ → ℕ → Bool
  pub fills : ℕ → ℕ → Bool

-- a capability may stand in a slot
abbrev pub StandsAt : Flow → ℕ → Cap → Type 0
StandsAt flow slot cap = flow.may (flow.set_of slot) cap ≡ true

-- each slot holds what may stand there
abbrev pub HoldsWhatMayStand : Flow → Forest Entry → Type 0
HoldsWhatMayStand flow f = (slot : ℕ) → StandsAt flow slot (cap_at f slot)

-- a slot lies in one of some sets
abbrev pub LiesAmong : Flow → (ℕ → Bool) → ℕ → Type 0
LiesAmong flow among slot = among (flow.set_of slot) ≡ true

-- what a copy, a mint, a move, a mutate or the setting of a space may make of a capability: it names the same object
abbrev pub MayBeMadeOf : Cap → Cap → Type 0
MayBeMadeOf Null made = made ≡ Null
MayBeMadeOf (Untyped base bits free) made = made ≡ Untyped base bits free
MayBeMadeOf (Endpoint base badge rights) made =
    (other : Badge) × ((few : Rights) × ((made ≡ Endpoint base other few) × (((badge.0 ≡ other.0) ⊎ (badge.0 ≡ 0)) × (bit_and few.0 rights.0 ≡ few.0))))
MayBeMadeOf (CNode base radix guard) made = (other : Guard) × (made ≡ CNode base radix other)
MayBeMadeOf (Tcb base) made = made ≡ Tcb base

-- each CNode that may be the root of the set's threads takes all bits of a word
abbrev pub IsEnding : ProfileName → Flow → ℕ → Type 0
IsEnding p flow c =
    (base radix : ℕ) (guard : Guard) → flow.may c (CNode base radix guard) ≡ true → guard.size + radix ≡ word_bits p

-- words go on from a CNode's capability in a slot in which they may end, and may end at one behind it
abbrev pub WordsGoOn : ProfileName → Flow → ℕ → Type 0
WordsGoOn p flow c =
    (set : ℕ) (cap : Cap) (slot : ℕ) → flow.names c set ≡ true → flow.may set cap ≡ true → IsSlotOf p cap slot →
    LiesAmong flow (flow.names c) slot × LiesAmong flow (flow.nodes c) slot

-- what threads do whose root slots lie in set c: nothing that is not listed
pub record IsSettledFor (p : ProfileName) (flow : Flow) (c : ℕ) : Type 0 where
  -- their words end in the slots of their roots, or go on
  pub begins : (root : Cap) (slot : ℕ) → flow.may c root ≡ true → IsSlotOf p root slot → LiesAmong flow (flow.names c) slot
  pub goes_on : IsEnding p flow c ⊎ WordsGoOn p flow c
  -- words end at a CNode's capability in a root if that takes all their bits
  pub ends : (base radix : ℕ) (guard : Guard) (slot : ℕ) → flow.may c (CNode base radix guard) ≡ true → guard.size + radix ≡ word_bits p →
      IsSlotOf p (CNode base radix guard) slot → LiesAmong flow (flow.nodes c) slot
  -- they fill and read the slots of CNodes whose capabilities words lead to, or stand in slots that they read
  pub reaches : (set : ℕ) (cap : Cap) (slot : ℕ) → (flow.nodes c set ≡ true) ⊎ (flow.fills c set ≡ true) → flow.may set cap ≡ true →
      IsSlotOf p cap slot → LiesAmong flow (flow.fills c) slot
  -- what they read they may put where they fill
  pub puts : (from to : ℕ) (cap made : Cap) → flow.fills c from ≡ true → flow.fills c to ≡ true → flow.may from cap ≡ true →
      MayBeMadeOf cap made → flow.may to made ≡ true
  -- and what is made in a region that a word leads to
  pub makes : (from to base bits free : ℕ) (made : Cap) → flow.names c from ≡ true → flow.fills c to ≡ true →
      flow.may from (Untyped base bits free) ≡ true → base ≤ base_of made → end_of p made ≤ base + 2 ^ bits → flow.may to made ≡ true
  -- a CNode that a word leads to may become the root of a thread that a word leads to
  pub sets : (from of thread base radix : ℕ) (guard other : Guard) → flow.nodes c from ≡ true → flow.names c of ≡ true →
      flow.may of (Tcb thread) ≡ true → flow.may from (CNode base radix guard) ≡ true → StandsAt flow thread (CNode base radix other)

-- a flow that holds for all calls: any slot may be empty, how much is used of a region does not matter, and each thread that is not
-- trusted, wherever its capability may stand, does what is listed
pub record IsSettled (p : ProfileName) (flow : Flow) : Type 0 where
  pub empties : (set : ℕ) → flow.may set Null ≡ true
  pub used : (set base bits free other : ℕ) → flow.may set (Untyped base bits free) ≡ true → flow.may set (Untyped base bits other) ≡ true
  pub callers : (set thread : ℕ) → flow.may set (Tcb thread) ≡ true → flow.trusted thread ≡ false → IsSettledFor p flow (flow.set_of thread)
