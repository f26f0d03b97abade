-- How parts are put in the order in which they are listed.
use Rattle.std.specs.Prelude.{◌≡◌, ℕ, ◌+◌, ◌≤◌, ◌⊎◌, Bool, true, cond, ◌==◌, ◌&&◌, nat_le, nat_lt, List, [], ◌∷◌, ◌++◌, map, length, Option, Some, None, position}
use Rattle.std.specs.List.{list_any, list_all, AllAdjacentBelow}
use Rattle.cap_core.specs.declared.profile.ProfileName.{ProfileName}
use Rattle.kernel_delete.specs.Members.{In}
use Rattle.query_parts.specs.declared.listed.PartMemory.{PartMemory}
use Rattle.query_parts.specs.declared.listed.PartUse.{PartUse}
use Rattle.query_parts.specs.Listed.{lies_in}
use Rattle.query_parts.specs.Order.{lies_behind, is_numbered, comes_before, owns_endpoint, covers, is_needed}
use Rattle.query_parts.specs.Private.Search.{use_in, AreSound}

-- a stretch of the same part goes on, or begins, what ends with another
abbrev pub goes_on : PartMemory → PartMemory → Bool
goes_on m n = m.part == n.part && nat_le n.first (m.last + 1)

-- both as one
abbrev pub joined_with : PartMemory → PartMemory → PartMemory
joined_with m n = record { part = m.part; first = m.first; last = cond (nat_lt m.last n.last) n.last m.last }

-- stretches by rising address, behind a first one, with those joined that touch and are of one part
abbrev pub joined_from : PartMemory → List PartMemory → List PartMemory
joined_from m [] = m ∷ []
joined_from m (n ∷ ns) = cond (goes_on m n) (joined_from (joined_with m n) ns) (m ∷ joined_from n ns)

abbrev pub joined_all : List PartMemory → List PartMemory
joined_all [] = []
joined_all (m ∷ ms) = joined_from m ms

-- the parts of stretches, each where it comes first, behind those that were seen
abbrev pub labels_from : List ℕ → List PartMemory → List ℕ
labels_from seen [] = seen
labels_from seen (m ∷ ms) = labels_from (cond (list_any (λ label. label == m.part) seen) seen (seen ++ m.part ∷ [])) ms

abbrev pub number_in : Option ℕ → ℕ
number_in None = 0
number_in (Some place) = place + 1

-- the number of a part, from 1 on, by its label
abbrev pub number_of : List ℕ → ℕ → ℕ
number_of labels part = number_in (position (λ label. label == part) labels)

-- what is left of some uses: those that are needed, in order; each that is left out is of an endpoint that its part owns, or
-- another allows all that it does
pub record AreNeeded (p : ProfileName) (memory : List PartMemory) (uses : List PartUse) (told : List PartUse) : Type 0 where
  pub only : (u : PartUse) → In u told → In u uses
  pub covered : (u : PartUse) → In u uses → (owns_endpoint p memory u.part u.endpoint ≡ true) ⊎ ((w : PartUse) × (In w told × (covers w u ≡ true)))
  pub rising : AllAdjacentBelow (λ u w. comes_before u w ≡ true) told (length told)
  pub needed : list_all (is_needed p memory told) told ≡ true

-- memory of parts that is listed is memory that is there, and all of it, by the number of each label and the label of each number
pub record IsMemoryTold (memory memory' : List PartMemory) (number label : ℕ → ℕ) : Type 0 where
  pub memory_from : (m : PartMemory) → In m memory' → (address : ℕ) → m.first ≤ address → address ≤ m.last →
      (n : PartMemory) × (In n memory × ((n.part ≡ label m.part) × ((m.part ≡ number n.part) × (lies_in n address ≡ true))))
  pub memory_to : (n : PartMemory) → In n memory → (m : PartMemory) × (In m memory' × ((m.part ≡ number n.part) × ((m.first ≤ n.first) × (n.last ≤ m.last))))
  pub labelled : (n : PartMemory) → In n memory → label (number n.part) ≡ n.part
  pub long : (m : PartMemory) → In m memory' → m.first ≤ m.last
  pub rising : AllAdjacentBelow (λ m n. lies_behind m n ≡ true) memory' (length memory')
  pub numbered : list_all (is_numbered memory') memory' ≡ true

-- sound parts are listed: their memory, and of their uses those that are needed
pub record AreTold (p : ProfileName) (memory : List PartMemory) (uses : List PartUse) (memory' : List PartMemory) (uses' : List PartUse) : Type 0 where
  pub number : ℕ → ℕ
  pub label : ℕ → ℕ
  pub memory_told : IsMemoryTold memory memory' number label
  pub uses_told : AreNeeded p memory' (map (use_in number) uses) uses'

abbrev pub AreArranged : ProfileName → List PartMemory → List PartUse → List PartMemory → List PartUse → Type 0
AreArranged p memory uses memory' uses' = AreSound memory uses → AreTold p memory uses memory' uses'
