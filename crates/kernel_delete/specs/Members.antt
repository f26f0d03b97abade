-- Members of lists, and lists in which nothing comes twice.
use Rattle.std.specs.Prelude.{◌≡◌, ◌⊎◌, ◌<◌, ℕ, Bool, true, false, List, [], ◌∷◌, ⊤}
use Rattle.std.specs.List.{list_any, AllByRecursion as Each}
use Rattle.kernel_forest.specs.Entries.{Entry, is_at}

-- it is an element of the list
abbrev pub In : {A : Type 0} → A → List A → Type 0
In a [] = ⊥
In a (x ∷ l) = (a ≡ x) ⊎ In a l

-- nothing comes twice
abbrev pub AreDistinct : List ℕ → Type 0
AreDistinct [] = ⊤
AreDistinct (n ∷ l) = (In n l → ⊥) × AreDistinct l

-- each number of a list is below a bound
abbrev pub AreBelow : ℕ → List ℕ → Type 0
AreBelow size l = Each (λ n. n < size) l

-- no two of the list pass
abbrev pub OneAtMost : {A : Type 0} → (A → Bool) → List A → Type 0
OneAtMost p [] = ⊤
OneAtMost p (a ∷ l) = (p a ≡ true → list_any p l ≡ false) × OneAtMost p l

-- no two of the list stand at one slot
abbrev pub AreApart : List Entry → Type 0
AreApart l = (n : ℕ) → OneAtMost (is_at n) l
