-- Places of a list by the keys of what stands there.
use Rattle.std.specs.Prelude.{◌≡◌, ℕ, suc, Bool, ◌==◌, List, [], ◌∷◌, filter}
use Rattle.std.specs.List.Sorted.{IsNonDecreasingBy}
use Rattle.query_revoke.specs.declared.keyed.Keyed.{Keyed}

abbrev pub is_keyed_by : ℕ → Keyed → Bool
is_keyed_by n k = k.key == n

-- no key comes after a greater one
abbrev pub AreOrderedByKey : List Keyed → Type 0
AreOrderedByKey list = IsNonDecreasingBy (λ (k : Keyed). k.key) list

-- each of a list of keys with its place, counted from a number on
abbrev pub keyed_by_place : ℕ → List ℕ → List Keyed
keyed_by_place place [] = []
keyed_by_place place (key ∷ keys) = record { key = key; place = place } ∷ keyed_by_place (suc place) keys

-- places by rising keys have, of each key, the places of a list of keys, in their order
pub record AreKeyed (keys : List ℕ) (list : List Keyed) : Type 0 where
  pub order : AreOrderedByKey list
  pub same : (n : ℕ) → filter (is_keyed_by n) list ≡ filter (is_keyed_by n) (keyed_by_place 0 keys)
