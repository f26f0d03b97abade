-- The marked list: slots with their capabilities and two marks, and the forest that they stand for.
use Rattle.std.specs.Prelude.{◌≡◌, ◌≢◌, ℕ, ◌*◌, Bool, true, false, cond, not, ◌==◌, ◌&&◌, ◌||◌, List, [], ◌∷◌, ◌++◌, map, take, Option, Some, None, ⊤, ◌⊎◌}
use Rattle.std.specs.List.{AllByRecursion as Each, Contains, prefix_len}
use Rattle.cap_core.specs.declared.profile.ProfileName.{ProfileName}
use Rattle.cap_core.specs.declared.capability.Cap.{Cap}
use Rattle.cap_core.specs.declared.capability.Cap.TheVariants.{Null}
use Rattle.cap_core.specs.Numbers.{slot_size}
use Rattle.cap_core.specs.Objects.{is_untyped, badge_of, same_object, in_region, IsLawful}
use Rattle.kernel_forest.specs.Forest.{Forest, preorder, descendants, with_descendant_counts, runs, renamed, build}
use Rattle.kernel_forest.specs.Entries.{Entry, entry, is_at, first_child}
use Rattle.kernel_forest.specs.Derivation.{is_last}
use Rattle.kernel_forest.specs.Disjoint.{IsDisjoint}

-- a full slot, by its place among the slots of the memory, its capability, and the two marks
pub record Marked : Type 0 where
  pub place : ℕ
  pub cap : Cap
  pub revocable : Bool
  pub first_badged : Bool

abbrev pub marked : ℕ → Cap → Bool → Bool → Marked
marked place cap revocable first_badged = record { place = place; cap = cap; revocable = revocable; first_badged = first_badged }

-- another capability in the same slot, with the same marks
abbrev pub with_cap : Cap → Marked → Marked
with_cap cap r = marked r.place cap r.revocable r.first_badged

-- the same in another slot
abbrev pub at_place : ℕ → Marked → Marked
at_place place r = marked place r.cap r.revocable r.first_badged

-- first badged, if it or the one in front of it was
abbrev pub with_mark : Bool → Marked → Marked
with_mark mark r = marked r.place r.cap r.revocable (r.first_badged || mark)

-- a has no badge, or b has the same badge and is not the first with it
abbrev pub badge_fits : Marked → Marked → Bool
badge_fits a b = (badge_of a.cap == 0) || ((badge_of b.cap == badge_of a.cap) && not b.first_badged)

-- a is parent of b
abbrev pub is_parent : ProfileName → Marked → Marked → Bool
is_parent p a b = a.revocable && (in_region p a.cap b.cap && badge_fits a b)

abbrev pub entry_of : ProfileName → Marked → Entry
entry_of p r = entry (r.place * slot_size p) r.cap r.revocable

-- the forest whose preorder the list is: below each is the longest run of followers that it is parent of; revocable
-- means original
abbrev pub forest_of : ProfileName → List Marked → Forest Entry
forest_of p l = renamed (entry_of p) (build (is_parent p) l)

-- among the followers of a, those in its region come first
abbrev pub IsFront : ProfileName → Marked → List Marked → Type 0
IsFront p a [] = ⊤
IsFront p a (b ∷ l) = (in_region p a.cap b.cap ≡ false → Each (λ (c : Marked). in_region p a.cap c.cap ≡ false) l) × IsFront p a l

-- so it is for each. The slots that name one object stand together, and what lies in an untyped region and comes behind it
-- follows it
abbrev pub IsGathered : ProfileName → List Marked → Type 0
IsGathered p [] = ⊤
IsGathered p (a ∷ l) = IsFront p a l × IsGathered p l

-- directly behind a slot of the same object and badge
abbrev pub Follows : Option Marked → Marked → Type 0
Follows None b = ⊥
Follows (Some a) b = (same_object a.cap b.cap ≡ true) × (badge_of a.cap ≡ badge_of b.cap)

-- behind `before`: each that has a badge and is not first badged directly follows a slot of the same endpoint and badge
abbrev pub IsLed : Option Marked → List Marked → Type 0
IsLed before [] = ⊤
IsLed before (b ∷ l) = (badge_of b.cap ≢ 0 → b.first_badged ≡ false → Follows before b) × IsLed (Some b) l

-- of the slots that name one object, a revocable one with no badge is the first
abbrev pub IsNamedFirst : List Marked → Type 0
IsNamedFirst [] = ⊤
IsNamedFirst (a ∷ l) = Each (λ (b : Marked). same_object a.cap b.cap ≡ true → b.revocable ≡ true → badge_of b.cap ≢ 0) l × IsNamedFirst l

-- an untyped one is revocable, and a revocable one with a badge has both marks
pub record HasMarks (r : Marked) : Type 0 where
  pub untyped : is_untyped r.cap ≡ true → r.revocable ≡ true
  pub badged : badge_of r.cap ≢ 0 → r.revocable ≡ true → r.first_badged ≡ true

-- it is the slot at that place
abbrev pub stands_at : ProfileName → ℕ → Marked → Bool
stands_at p place r = is_at (place * slot_size p) (entry_of p r)

-- what the list of a linked store keeps, in a memory of 2^memory bytes
pub record IsMarkedList (p : ProfileName) (memory : ℕ) (l : List Marked) : Type 0 where
  pub lawful : Each (λ (r : Marked). IsLawful p memory r.cap) l
  pub disjoint : IsDisjoint p (forest_of p l)
  pub gathered : IsGathered p l
  pub led : IsLed None l
  pub named_first : IsNamedFirst l
  pub marks : Each HasMarks l

-- the row of the list at a place, or an empty one if there is none
abbrev pub row_in : ℕ → List Marked → Marked
row_in place [] = marked place Null false false
row_in place (r ∷ l) = cond (r.place == place) r (row_in place l)

abbrev pub first_place : List Marked → Option ℕ
first_place [] = None
first_place (r ∷ l) = Some r.place

-- the place before it, if `before` comes before the list, and the place after it
abbrev pub previous_in : ℕ → Option ℕ → List Marked → Option ℕ
previous_in place before [] = None
previous_in place before (r ∷ l) = cond (r.place == place) before (previous_in place (Some r.place) l)

-- the place after a place in a marked list
abbrev pub next_in : ℕ → List Marked → Option ℕ
next_in place [] = None
next_in place (r ∷ l) = cond (r.place == place) (first_place l) (next_in place l)

-- the list represents a forest of entries: it is the forest's preorder, revocable means original, and the descendants of each
-- are the longest run of followers that it is parent of
abbrev pub StandsForEntries : ProfileName → List Marked → Forest Entry → Type 0
StandsForEntries p l f = with_descendant_counts f ≡ map (λ (r : Marked × ℕ). (entry_of p r.0, r.1)) (runs (is_parent p) l)

-- of the capabilities that name one object, an original one with no badge has all others below it
abbrev pub HasOthersBelow : Forest Entry → Type 0
HasOthersBelow f =
    (a b : Entry) → Contains (preorder f) a → Contains (preorder f) b → same_object a.cap b.cap ≡ true → a.original ≡ true →
    badge_of a.cap ≡ 0 → (b.slot ≡ a.slot) ⊎ Contains (descendants (is_at a.slot) f) b

-- the longest run of followers that a slot is parent of
abbrev pub run_of : ProfileName → Marked → List Marked → List Marked
run_of p s followers = take (prefix_len (is_parent p s) followers) followers

-- the descendants of each slot are the longest run of the slots after it that it is parent of
abbrev pub HasRunsBelow : ProfileName → List Marked → Type 0
HasRunsBelow p l =
    (pre : List Marked) (s : Marked) (post : List Marked) → l ≡ pre ++ s ∷ post →
    descendants (is_at (s.place * slot_size p)) (forest_of p l) ≡ map (entry_of p) (run_of p s post)

-- the next slot, if s is parent of it
abbrev pub next_child : ProfileName → Marked → List Marked → Option ℕ
next_child p s [] = None
next_child p s (b ∷ l) = cond (is_parent p s b) (Some (b.place * slot_size p)) None

-- the newest child of each slot is the next slot, if it is parent of that, and otherwise it has none
abbrev pub HasChildrenNext : ProfileName → List Marked → Type 0
HasChildrenNext p l =
    (pre : List Marked) (s : Marked) (post : List Marked) → l ≡ pre ++ s ∷ post →
    first_child (s.place * slot_size p) (forest_of p l) ≡ next_child p s post

-- the slot in front of s names its object
abbrev pub is_named_before : Marked → List Marked → Bool
is_named_before s [] = false
is_named_before s (a ∷ []) = same_object a.cap s.cap
is_named_before s (a ∷ b ∷ l) = is_named_before s (b ∷ l)

-- the slot behind s names its object
abbrev pub is_named_behind : Marked → List Marked → Bool
is_named_behind s [] = false
is_named_behind s (b ∷ l) = same_object b.cap s.cap

-- each slot's capability is the last of its object exactly if it is untyped, or neither neighbour names the object
abbrev pub HasLastsAlone : ProfileName → List Marked → Type 0
HasLastsAlone p l =
    (pre : List Marked) (s : Marked) (post : List Marked) → l ≡ pre ++ s ∷ post →
    is_last (s.place * slot_size p) (forest_of p l) ≡ (is_untyped s.cap || not (is_named_before s pre || is_named_behind s post))
