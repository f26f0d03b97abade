-- A list of numbers in which none comes twice: how long it is at most.
use Rattle.std.proofs.Common.{◌≡◌, ◌≢◌, ℕ, ◌<◌, ◌≤◌, Bool, true, false, ◌||◌, eqb, List, [], ◌∷◌, length, arith}
use Rattle.std.specs.List.{AllByRecursion as Each, IsDistinct, list_any}
use Rattle.std.proofs.lemmas.Bool.Decides.{nat_tests}
use Rattle.std.proofs.lemmas.Map.Steps.{length-le_from_distinct_below}
use Rattle.cap_core.specs.Distinct.{Lacks, IsApart}

eqb_no : (i j : ℕ) → j ≢ i → eqb i j ≡ false
eqb_no i j h = grind (arith, nat_tests)

any_within : (n : ℕ) (l : List ℕ) → Each (λ i. i < n) l → (q : ℕ) → list_any (eqb q) l ≡ true → q < n
any_within n [] w q h = cc
any_within n (i ∷ l) w q h = step n i q (list_any (eqb q) l) w.0 (any_within n l w.1 q) h
  where
    step : (n i q : ℕ) (b : Bool) → i < n → (b ≡ true → q < n) → (eqb q i || b) ≡ true → q < n
    step n i q b w ih h = grind (arith, nat_tests)

pub distinct : (l : List ℕ) → IsApart l → IsDistinct eqb l
unfolding IsDistinct
distinct [] h = tt
distinct (i ∷ l) h = (differ l h.0, distinct l h.1)
  where
    differ : (m : List ℕ) → Lacks i m → Each (λ j. eqb i j ≡ false) m
    differ [] n = tt
    differ (j ∷ m) n = (eqb_no i j n.0, differ m n.1)

-- of numbers below n there are no more than n
pub few : (n : ℕ) (l : List ℕ) → IsApart l → Each (λ i. i < n) l → length l ≤ n
few n l a w = length-le_from_distinct_below l n (distinct l a) (any_within n l w)
