-- Rows in the preorder of a forest, each with its depth.
use Rattle.std.specs.Prelude.{◌≡◌, ◌≢◌, ℕ, ◌+◌, ◌-◌, ◌*◌, ◌^◌, ◌<◌, ◌≤◌, Bool, true, cond, not, ◌&&◌, ◌==◌, ltb, List, [], ◌∷◌, ⊤}
use Rattle.std.specs.List.{AllByRecursion as Each}
use Rattle.cap_core.specs.declared.profile.ProfileName.{ProfileName}
use Rattle.cap_core.specs.declared.capability.Cap.{Cap}
use Rattle.cap_core.specs.Objects.{IsLawful, is_untyped, same_object}
use Rattle.cap_core.specs.Numbers.{slot_size}
use Rattle.slot_core.specs.declared.slot.Slot.{Slot}
use Rattle.slot_core.specs.declared.rows.Row.{Row}
use Rattle.kernel_forest.specs.Forest.{Forest, renamed, build}
use Rattle.kernel_forest.specs.Entries.{Entry, entry}
use Rattle.kernel_forest.specs.Derivation.{is_new_original}
use Rattle.slot_core.specs.Places.{address_of}

abbrev pub is_deeper : Row → Row → Bool
is_deeper a b = ltb a.depth b.depth

abbrev pub slot_of_row : Row → Slot
slot_of_row row = row.slot

abbrev pub entry_of : ProfileName → Row → Entry
entry_of p row = entry (address_of p row.slot) row.cap row.original

-- the forest whose preorder the rows are: below each row are the deeper ones that follow it
abbrev pub forest_of : ProfileName → List Row → Forest Entry
forest_of p rows = renamed (entry_of p) (build is_deeper rows)

-- the place of a slot's row, or the number of rows
abbrev pub place_of : ℕ → List Row → ℕ
place_of place [] = 0
place_of place (row ∷ rows) = cond (row.slot.place == place) 0 (1 + place_of place rows)

-- the depth of a row that is derived from a row: one more below an original one, and the same behind another
abbrev pub derived_depth : Row → ℕ
derived_depth row = cond row.original (row.depth + 1) row.depth

-- the row of a capability that is derived from a row's
abbrev pub derived_row : Row → Slot → Cap → Row
derived_row row slot cap = record { slot = slot; cap = cap; original = is_new_original row.cap cap; depth = derived_depth row }

-- another slot's row, which names the object of a capability
abbrev pub names_elsewhere : ℕ → Cap → Row → Bool
names_elsewhere place cap row = not (row.slot.place == place) && same_object row.cap cap

-- the deeper rows in front, each one less deep
abbrev pub raised : ℕ → List Row → List Row
raised depth [] = []
raised depth (row ∷ rows) = cond (ltb depth row.depth) (record row { depth = row.depth - 1 } ∷ raised depth rows) (row ∷ rows)

-- the first row has at most this depth, each next row is at most one deeper, and none is deeper than one before it that is
-- not original
abbrev pub IsStepwise : ℕ → List Row → Type 0
IsStepwise depth [] = ⊤
IsStepwise depth (row ∷ rows) = (row.depth ≤ depth) × IsStepwise (derived_depth row) rows

-- no two rows have one slot
abbrev pub AreApart : List Row → Type 0
AreApart [] = ⊤
AreApart (row ∷ rows) = Each (λ (other : Row). other.slot.place ≢ row.slot.place) rows × AreApart rows

-- the rows of a memory of 2^memory bytes, in a vector with room for a row of each slot
pub record IsRowStore (p : ProfileName) (memory capacity : ℕ) (rows : List Row) : Type 0 where
  pub apart : AreApart rows
  pub stepwise : IsStepwise 0 rows
  pub within : Each (λ (row : Row). address_of p row.slot < 2 ^ memory) rows
  pub lawful : Each (λ (row : Row). IsLawful p memory row.cap) rows
  pub untyped : Each (λ (row : Row). is_untyped row.cap ≡ true → row.original ≡ true) rows
  pub room : 2 ^ memory ≤ capacity * slot_size p
