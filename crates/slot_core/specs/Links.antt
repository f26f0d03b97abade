-- The table of a linked store, and the list that it leads along.
use Rattle.std.specs.Prelude.{◌≡◌, ℕ, zero, suc, ◌+◌, ◌*◌, ◌^◌, ◌<◌, ◌==◌, false, cond, List, [], ◌∷◌, map, length, get_or, Option, Some, None, ⊤, option_map}
use Rattle.std.specs.List.{AllByRecursion as Each}
use Rattle.cap_core.specs.declared.profile.ProfileName.{ProfileName}
use Rattle.cap_core.specs.declared.capability.Cap.TheVariants.{Null}
pub use Rattle.cap_core.specs.Distinct.{Lacks, IsApart}
pub use Rattle.cap_core.specs.Links.{walk}
use Rattle.cap_core.specs.Numbers.{slot_bits, slot_size}
use Rattle.slot_core.specs.declared.slot.Slot.{Slot}
use Rattle.slot_core.specs.declared.linked.table.Link.{Link}
use Rattle.kernel_forest.specs.Marked.{Marked, marked, IsMarkedList}

abbrev pub empty_link : Link
empty_link = record { cap = Null; previous = None; next = None; revocable = false; first_badged = false }

-- the place of a slot, if there is one
abbrev pub place_in : Option Slot → Option ℕ
place_in slot = option_map (λ (s : Slot). s.place) slot

abbrev pub link_at : List Link → ℕ → Link
link_at links i = get_or links i empty_link

abbrev pub next_of : List Link → ℕ → Option ℕ
next_of links i = place_in (link_at links i).next

abbrev pub previous_of : List Link → ℕ → Option ℕ
previous_of links i = place_in (link_at links i).previous

-- what the list has of a slot, besides its neighbours
abbrev pub row_of : List Link → ℕ → Marked
row_of links i = marked i (link_at links i).cap (link_at links i).revocable (link_at links i).first_badged

-- what a row has besides its neighbours, at no place of its own
abbrev pub unplaced : Link → Marked
unplaced link = marked 0 link.cap link.revocable link.first_badged

-- the first of a list, and `behind` if it has none
abbrev pub head_or : List ℕ → Option ℕ → Option ℕ
head_or [] behind = behind
head_or (i ∷ l) behind = Some i

-- the last of a list, and `before` if it has none
abbrev pub last_or : Option ℕ → List ℕ → Option ℕ
last_or before [] = before
last_or before (i ∷ l) = last_or (Some i) l

-- between `before` and `behind`, previous leads from each of the list to the one in front of it, and next to the one behind it
abbrev pub AreLinked : (ℕ → Option ℕ) → (ℕ → Option ℕ) → Option ℕ → List ℕ → Option ℕ → Type 0
AreLinked next previous before [] behind = ⊤
AreLinked next previous before (i ∷ l) behind = (previous i ≡ before) × ((next i ≡ head_or l behind) × AreLinked next previous (Some i) l behind)

-- the row of an empty slot
pub record IsFree (links : List Link) (i : ℕ) : Type 0 where
  pub next : next_of links i ≡ None
  pub previous : previous_of links i ≡ None
  pub row : row_of links i ≡ marked i Null false false

-- the table leads along the list, from its first slot to its last, and every other row is an empty one
pub record IsLinked (links : List Link) (first last : Option ℕ) (order : List ℕ) : Type 0 where
  pub starts : first ≡ head_or order None
  pub ends : last ≡ last_or None order
  pub linked : AreLinked (next_of links) (previous_of links) None order None
  pub apart : IsApart order
  pub within : Each (λ i. i < length links) order
  pub free : (i : ℕ) → Lacks i order → IsFree links i

-- the places of the list, in order
abbrev pub order_of : List Link → Option ℕ → List ℕ
order_of links first = walk (next_of links) (length links) first

-- the marked list to which the links lead from its first slot on
abbrev pub rows_of : List Link → Option ℕ → List Marked
rows_of links first = map (row_of links) (order_of links first)

-- the number up to `most` to which 2 must be raised to give n, and 0 if there is none
abbrev pub exponent : ℕ → ℕ → ℕ
exponent zero n = 0
exponent (suc most) n = cond (2 ^ suc most == n) (suc most) (exponent most n)

-- the bits of the size in bytes of a memory that has as many slots as the table has rows
abbrev pub memory_of : ProfileName → List Link → ℕ
memory_of p links = slot_bits p + exponent (length links) (length links)

-- the table of a linked store, with the first and the last slot of its list: one row for each slot of the memory
pub record IsLinkedStore (p : ProfileName) (links : List Link) (first last : Option ℕ) : Type 0 where
  pub linked : IsLinked links first last (order_of links first)
  pub kept : IsMarkedList p (memory_of p links) (rows_of links first)
  pub size : 2 ^ memory_of p links ≡ length links * slot_size p
