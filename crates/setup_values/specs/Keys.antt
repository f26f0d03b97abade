-- The entries of a table, and the least of some things by the bytes of their keys.
use Rattle.std.specs.Prelude.{ℕ, List, [], ◌∷◌, if◌then◌else◌, Option, Some, None}
use Rattle.std.specs.Ordering.{nat_cmp, is_lt}
use Rattle.std.specs.Cmp.Lexicographic.{slice_cmp}
use Rattle.toml.specs.Data.{Data, Members, no_members, member}

-- each key of a table, and its value
abbrev pub entries_of : Members → List (List ℕ × Data)
entries_of no_members = []
entries_of (member k d ms) = (k, d) ∷ entries_of ms

abbrev pub keys_of : Members → List (List ℕ)
keys_of no_members = []
keys_of (member k d ms) = k ∷ keys_of ms

-- the one of two with the lesser key, and the one of some with the least key
abbrev pub lesser : {A : Type 0} → (A → List ℕ) → A → Option A → Option A
lesser key x None = Some x
lesser key x (Some y) = if is_lt (slice_cmp nat_cmp (key y) (key x)) then Some y else Some x

abbrev pub least : {A : Type 0} → (A → List ℕ) → List A → Option A
least key [] = None
least key (x ∷ xs) = lesser key x (least key xs)
