-- A list whose elements belong to keys, of which each key made some.
use Rattle.std.specs.Prelude.{◌≡◌, ℕ, zero, suc, ◌+◌, ◌≤◌, ◌==◌, ◌&&◌, Bool, List, ◌++◌, filter, count_by, length, take, map}

-- the sum of the first so many numbers
unfoldable pub total : ℕ → (ℕ → ℕ) → ℕ
total zero f = 0
total (suc n) f = total n f + f n

-- the elements with a key, in order
abbrev pub of_key : {X : Type 0} → (X → ℕ) → ℕ → List X → List X
of_key key i xs = filter (λ x. key x == i) xs

abbrev pub count_key : {X : Type 0} → (X → ℕ) → ℕ → List X → ℕ
count_key key i xs = count_by (λ x. key x == i) xs

-- a beginning of the list has so many elements with the key that pass a further test, and they carry the first of some calls
pub record HasMade {X C : Type 0} (key : X → ℕ) (call : X → C) (h : List X) (i done : ℕ) (calls : List C) : Type 0 where
  pub front : List X
  pub rest : List X
  pub passes : X → Bool
  pub begins : h ≡ front ++ rest
  pub carry : map call (filter (λ x. (key x == i) && passes x) front) ≡ take done calls
  pub within : done ≤ length calls
