-- Of the elements of a list, the first of each kind, by a test of two elements.
use Rattle.std.specs.Prelude.{◌≡◌, ℕ, ◌+◌, ◌*◌, min, Bool, true, cond, List, [], ◌∷◌, ◌++◌, map}
use Rattle.std.specs.List.{list_any, sum_by, AllByRecursion as Each}

-- whether the list has one of the kind of this
abbrev pub has_kind_of : {X : Type 0} → (X → X → Bool) → List X → X → Bool
has_kind_of same ys x = list_any (λ y. same y x) ys

-- the list, with this one at the end if it is the first of its kind
abbrev pub with_first : {X : Type 0} → (X → X → Bool) → List X → X → List X
with_first same ys x = cond (has_kind_of same ys x) ys (ys ++ x ∷ [])

-- the list, with each of these in turn
abbrev pub with_firsts : {X : Type 0} → (X → X → Bool) → List X → List X → List X
with_firsts same ys [] = ys
with_firsts same ys (x ∷ xs) = with_firsts same (with_first same ys x) xs

-- the first of each kind, in order
abbrev pub firsts : {X : Type 0} → (X → X → Bool) → List X → List X
firsts same xs = with_firsts same [] xs

-- the list has one of the kind of each of these
abbrev pub HasKinds : {X : Type 0} → (X → X → Bool) → List X → List X → Type 0
HasKinds same ys us = Each (λ u. has_kind_of same ys u ≡ true) us

-- a test that each element passes with itself, and that is passed on along a third
pub record IsKindTest {X : Type 0} (same : X → X → Bool) : Type 0 where
  pub itself : (x : X) → same x x ≡ true
  pub along : (x y z : X) → same x y ≡ true → same y z ≡ true → same x z ≡ true

-- elements of one kind are followed by elements of the same kinds
pub record KeepsKinds {X Y : Type 0} (same : X → X → Bool) (alike : Y → Y → Bool) (Fine : X → Type 0) (next : X → List Y) : Type 0 where
  pub each : (x y : X) → Fine x → Fine y → same x y ≡ true → HasKinds alike (next x) (next y)

-- ---- each kind with a count

-- a list of elements with counts, with one more: its count goes to the first of its kind, or it comes at the end
abbrev pub with_count : {X : Type 0} → (X → X → Bool) → List (X × ℕ) → X × ℕ → List (X × ℕ)
with_count same [] x = x ∷ []
with_count same (y ∷ ys) x = cond (same y.0 x.0) ((y.0, y.1 + x.1) ∷ ys) (y ∷ with_count same ys x)

-- the list, with each of these in turn
abbrev pub with_counts : {X : Type 0} → (X → X → Bool) → List (X × ℕ) → List (X × ℕ) → List (X × ℕ)
with_counts same ys [] = ys
with_counts same ys (x ∷ xs) = with_counts same (with_count same ys x) xs

-- the same with counts up to a greatest one
abbrev pub with_count_up_to : {X : Type 0} → ℕ → (X → X → Bool) → List (X × ℕ) → X × ℕ → List (X × ℕ)
with_count_up_to most same [] x = x ∷ []
with_count_up_to most same (y ∷ ys) x = cond (same y.0 x.0) ((y.0, min (y.1 + x.1) most) ∷ ys) (y ∷ with_count_up_to most same ys x)

abbrev pub with_counts_up_to : {X : Type 0} → ℕ → (X → X → Bool) → List (X × ℕ) → List (X × ℕ) → List (X × ℕ)
with_counts_up_to most same ys [] = ys
with_counts_up_to most same ys (x ∷ xs) = with_counts_up_to most same (with_count_up_to most same ys x) xs

-- each of these, so many times
abbrev pub each_times : {X : Type 0} → ℕ → List X → List (X × ℕ)
each_times n xs = map (λ x. (x, n)) xs

-- the sum of a weight, each element taken as often as its count says
abbrev pub weight : {X : Type 0} → (X → ℕ) → List (X × ℕ) → ℕ
weight f xs = sum_by (λ x. x.1 * f x.0) xs
