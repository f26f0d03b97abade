-- What the search for the least parts does with each thing that it takes in, and what it finds.
use Rattle.std.specs.Prelude.{◌≡◌, ℕ, ◌+◌, ◌≤◌, ◌⊎◌, Bool, true, false, not, cond, ◌==◌, ◌&&◌, nat_le, List, [], ◌∷◌, ◌++◌, map, take, length, Option, Some, None, is_some, unwrap_or}
use Rattle.std.specs.List.{list_all, count_by}
use Rattle.cap_core.specs.declared.profile.ProfileName.{ProfileName}
use Rattle.cap_core.specs.declared.capability.Cap.{Cap}
use Rattle.cap_core.specs.declared.capability.Cap.TheVariants.{Endpoint, Tcb}
use Rattle.cap_core.specs.declared.object.Range.{Range}
use Rattle.cap_core.specs.Objects.{base_of, bits_of}
use Rattle.cap_core.specs.Ranges.{range_named}
use Rattle.kernel_forest.specs.Entries.{Entry, entry}
use Rattle.slot_core.specs.declared.derivations.Derivation.{Derivation}
use Rattle.slot_core.specs.Calls.{derivation_view}
use Rattle.kernel_delete.specs.Members.{In}
use Rattle.query_parts.specs.declared.listed.PartMemory.{PartMemory}
use Rattle.query_parts.specs.declared.listed.PartUse.{PartUse}
use Rattle.query_parts.specs.Parts.{Parts, IsWithin}
use Rattle.query_parts.specs.Listed.{lies_in, part_at, last_in, is_within, entry_stands}

-- a stretch has one of these addresses
abbrev pub overlaps : ℕ → ℕ → PartMemory → Bool
overlaps first last m = nat_le m.first last && nat_le first m.last

-- the number of a part if one part has become another
abbrev pub renamed : ℕ → ℕ → ℕ → ℕ
renamed from to k = cond (k == from) to k

-- a stretch, and a use, with other numbers of their parts
abbrev pub memory_in : (ℕ → ℕ) → PartMemory → PartMemory
memory_in into m = record { part = into m.part; first = m.first; last = m.last }

abbrev pub use_in : (ℕ → ℕ) → PartUse → PartUse
use_in into u = record { part = into u.part; endpoint = u.endpoint; badge = u.badge; rights = u.rights }

-- some parts become one with a part, and no others: those that have one of these addresses
pub record Joins (part first last : ℕ) (memory : List PartMemory) (into : ℕ → ℕ) : Type 0 where
  pub same : into part ≡ part
  pub reason : (k : ℕ) → (into k ≡ k) ⊎ ((into k ≡ part) × ((m : PartMemory) × (In m memory × ((m.part ≡ k) × (overlaps first last m ≡ true)))))

-- so far: some of them may be left
pub record AreJoining (part first last : ℕ) (memory : List PartMemory) (uses : List PartUse) (memory' : List PartMemory) (uses' : List PartUse) : Type 0 where
  pub into : ℕ → ℕ
  pub joins : Joins part first last memory into
  pub memory_is : memory' ≡ map (memory_in into) memory
  pub uses_are : uses' ≡ map (use_in into) uses

-- all of them
pub record AreJoined (part first last : ℕ) (memory : List PartMemory) (uses : List PartUse) (memory' : List PartMemory) (uses' : List PartUse) : Type 0 where
  pub into : ℕ → ℕ
  pub joins : Joins part first last memory into
  pub all : (m : PartMemory) → In m memory → overlaps first last m ≡ true → into m.part ≡ part
  pub memory_is : memory' ≡ map (memory_in into) memory
  pub uses_are : uses' ≡ map (use_in into) uses

-- a stretch is taken into a part: the parts with which it has an address in common become that part
pub record IsStretchTaken (part first last : ℕ) (memory : List PartMemory) (uses : List PartUse) (memory' : List PartMemory) (uses' : List PartUse) : Type 0 where
  pub joined : List PartMemory
  pub joins : AreJoined part first last memory uses joined uses'
  pub memory_is : memory' ≡ joined ++ record { part = part; first = first; last = last } ∷ []

-- nothing is taken in
abbrev pub AreSame : List PartMemory → List PartUse → List PartMemory → List PartUse → Type 0
AreSame memory uses memory' uses' = (memory' ≡ memory) × (uses' ≡ uses)

abbrev pub IsTakenTo : ℕ → ℕ → Option ℕ → List PartMemory → List PartUse → List PartMemory → List PartUse → Type 0
IsTakenTo part first None memory uses memory' uses' = AreSame memory uses memory' uses'
IsTakenTo part first (Some last) memory uses memory' uses' = IsStretchTaken part first last memory uses memory' uses'

abbrev pub IsRangeTaken : ℕ → Range → List PartMemory → List PartUse → List PartMemory → List PartUse → Type 0
IsRangeTaken part range memory uses memory' uses' = IsTakenTo part range.first (last_in range.first range.bits) memory uses memory' uses'

abbrev pub IsNamedTaken : ℕ → Option Range → List PartMemory → List PartUse → List PartMemory → List PartUse → Type 0
IsNamedTaken part None memory uses memory' uses' = AreSame memory uses memory' uses'
IsNamedTaken part (Some range) memory uses memory' uses' = IsRangeTaken part range memory uses memory' uses'

-- what a capability names is taken into a part: an endpoint as a use, all else as memory
abbrev pub IsCapTaken : ProfileName → ℕ → Cap → List PartMemory → List PartUse → List PartMemory → List PartUse → Type 0
IsCapTaken p part (Endpoint base badge rights) memory uses memory' uses' =
    (memory' ≡ memory) × (uses' ≡ uses ++ record { part = part; endpoint = base; badge = badge; rights = rights } ∷ [])
IsCapTaken p part cap memory uses memory' uses' = IsNamedTaken part (range_named p cap) memory uses memory' uses'

abbrev pub IsTakenWhere : ProfileName → ℕ → Cap → Bool → List PartMemory → List PartUse → List PartMemory → List PartUse → Type 0
IsTakenWhere p part cap true memory uses memory' uses' = IsCapTaken p part cap memory uses memory' uses'
IsTakenWhere p part cap false memory uses memory' uses' = AreSame memory uses memory' uses'

-- what a slot in a stretch of a part holds is taken in, unless the part owns it
abbrev pub IsSlotTaken : ProfileName → PartMemory → Entry → List PartMemory → List PartUse → List PartMemory → List PartUse → Type 0
IsSlotTaken p m e memory uses memory' uses' =
    IsTakenWhere p m.part e.cap (lies_in m e.slot && not (is_within p memory [] m.part e.cap)) memory uses memory' uses'

-- ---- what is kept

-- each stretch has an address, stretches of two parts have none in common, and a part with a use has memory
pub record AreSound (memory : List PartMemory) (uses : List PartUse) : Type 0 where
  pub stretches : (m : PartMemory) → In m memory → m.first ≤ m.last
  pub apart : (m n : PartMemory) → In m memory → In n memory → (address : ℕ) → lies_in m address ≡ true → lies_in n address ≡ true → m.part ≡ n.part
  pub used : (u : PartUse) → In u uses → (m : PartMemory) × (In m memory × (m.part ≡ u.part))

abbrev pub inside_in : ProfileName → List PartMemory → List PartUse → Cap → Option ℕ → Bool
inside_in p memory uses cap None = false
inside_in p memory uses cap (Some part) = is_within p memory uses part cap

-- a slot lies in a part, and holds what may stand there
abbrev pub is_inside : ProfileName → List PartMemory → List PartUse → Entry → Bool
is_inside p memory uses e = inside_in p memory uses e.cap (part_at memory e.slot)

-- a slot lies in no part, or may not hold what it holds
abbrev pub is_outside : ProfileName → List PartMemory → List PartUse → Entry → Bool
is_outside p memory uses e = not (is_inside p memory uses e)

-- the object's last address is a word
abbrev pub EndsInWords : ProfileName → Cap → Type 0
EndsInWords p cap = is_some (last_in (base_of cap) (bits_of p cap)) ≡ true

-- the part in which some other parts have an address, 0 if none has
abbrev pub whose : Parts → ℕ → ℕ
whose other address = unwrap_or (other.part_of address) 0

-- what these slots hold may stand in other parts
abbrev pub HoldWithin : ProfileName → Parts → List Entry → Type 0
HoldWithin p other es = (e : Entry) → In e es → (i : ℕ) → other.part_of e.slot ≡ Some i → IsWithin p other i e.cap

-- each part, known by one of its addresses, lies in the other part that has this address
pub record AreBounded (p : ProfileName) (other : Parts) (memory : List PartMemory) (uses : List PartUse) : Type 0 where
  pub memory_lies : (m : PartMemory) → In m memory → (address : ℕ) → m.first ≤ address → address ≤ m.last → other.part_of address ≡ Some (whose other m.part)
  pub uses_lie : (u : PartUse) → In u uses → IsWithin p other (whose other u.part) (Endpoint u.endpoint u.badge u.rights)

-- what is kept if things are taken in: sound parts stay sound, what stands in a part stands there still, the parts lie
-- in others as before, and stretches are added behind, at most as many as slots come to hold what may stand there
pub record AreGrown (p : ProfileName) (es : List Entry) (memory : List PartMemory) (uses : List PartUse) (memory' : List PartMemory) (uses' : List PartUse) : Type 0 where
  pub sound : AreSound memory' uses'
  pub inside : (e : Entry) → is_inside p memory uses e ≡ true → is_inside p memory' uses' e ≡ true
  pub bounded : (other : Parts) → HoldWithin p other es → AreBounded p other memory uses → AreBounded p other memory' uses'
  pub into : ℕ → ℕ
  pub more : List PartMemory
  pub memory_is : memory' ≡ map (memory_in into) memory ++ more
  pub fewer : count_by (is_outside p memory' uses') es + length more ≤ count_by (is_outside p memory uses) es

-- each of these slots that lies in a stretch holds what may stand in its part
abbrev pub AreHeld : ProfileName → List PartMemory → List PartUse → PartMemory → List Entry → Type 0
AreHeld p memory uses m es = (e : Entry) → In e es → lies_in m e.slot ≡ true → EndsInWords p e.cap → is_inside p memory uses e ≡ true

-- some of the slots were looked at, and what they hold was taken in if they lie in a stretch of sound parts
pub record AreLooked (p : ProfileName) (es : List Entry) (m : PartMemory) (seen : List Entry) (memory : List PartMemory) (uses : List PartUse) (memory' : List PartMemory) (uses' : List PartUse) : Type 0 where
  pub grown : AreGrown p es memory uses memory' uses'
  pub still : In m memory'
  pub held : AreHeld p memory' uses' m seen

abbrev pub AreTaken : ProfileName → List Entry → PartMemory → List Entry → List PartMemory → List PartUse → List PartMemory → List PartUse → Type 0
AreTaken p es m seen memory uses memory' uses' = AreSound memory uses → In m memory → AreLooked p es m seen memory uses memory' uses'

-- the entries of derivations
abbrev pub entries_of : ProfileName → List Derivation → List Entry
entries_of p ds = map (λ (d : Derivation). (derivation_view p d).0) ds

-- a thread as what stands in its first slot: its own control block
abbrev pub block_of : ℕ → Entry
block_of t = entry t (Tcb t) true

-- parts around threads
pub record AreAround (p : ProfileName) (threads : List ℕ) (memory : List PartMemory) (uses : List PartUse) : Type 0 where
  pub sound : AreSound memory uses
  pub has : (t : ℕ) → In t threads → EndsInWords p (Tcb t) → is_inside p memory uses (block_of t) ≡ true
  pub bounded : (other : Parts) → ((t : ℕ) → In t threads → (i : ℕ) × (other.part_of t ≡ Some i × IsWithin p other i (Tcb t))) →
      AreBounded p other memory uses

-- what these slots hold may stand in other parts, and these threads' control blocks lie in them
pub record AreOf (p : ProfileName) (es : List Entry) (threads : List ℕ) (other : Parts) : Type 0 where
  pub holds : HoldWithin p other es
  pub has : (t : ℕ) → In t threads → (i : ℕ) × (other.part_of t ≡ Some i × IsWithin p other i (Tcb t))

-- the parts that are found around threads: they lie in each others that are closed and have the threads
pub record AreFound (p : ProfileName) (es : List Entry) (threads : List ℕ) (memory : List PartMemory) (uses : List PartUse) : Type 0 where
  pub sound : AreSound memory uses
  pub has : (t : ℕ) → In t threads → EndsInWords p (Tcb t) → is_inside p memory uses (block_of t) ≡ true
  pub bounded : (other : Parts) → AreOf p es threads other → AreBounded p other memory uses
  pub closed : ((e : Entry) → In e es → EndsInWords p e.cap) → list_all (entry_stands p memory uses) es ≡ true

-- the same before they are closed, if so many stretches were looked at
pub record AreFoundSoFar (p : ProfileName) (es : List Entry) (threads : List ℕ) (memory : List PartMemory) (uses : List PartUse) (place : ℕ) : Type 0 where
  pub sound : AreSound memory uses
  pub has : (t : ℕ) → In t threads → EndsInWords p (Tcb t) → is_inside p memory uses (block_of t) ≡ true
  pub bounded : (other : Parts) → AreOf p es threads other → AreBounded p other memory uses
  pub low : place ≤ length memory
  pub looked : (m : PartMemory) → In m (take place memory) → AreHeld p memory uses m es
