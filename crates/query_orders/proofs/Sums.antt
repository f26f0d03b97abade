-- Sums over the calls that are left, and over lists that are made of others.
use Rattle.std.proofs.Common.{◌≡◌, ◌≢◌, ◌==◌, ℕ, zero, suc, ◌+◌, ◌<◌, ◌≤◌, Bool, true, false, cond, List, [], ◌∷◌, ◌++◌, map, refl, ap, inl, inr, arith}
use Rattle.std.specs.List.{flat_map, sum_by, count_by}
use Rattle.std.proofs.lemmas.List.Sums.{sum_by-append, sum_by-cons, sum_by_push}
use Rattle.std.proofs.lemmas.List.Concat.{flat_map-cons}
use Rattle.std.proofs.lemmas.List.Recursion.{is_count_by}
use Rattle.std.proofs.lemmas.Bool.Decides.{eqb_tells}
use Rattle.query_orders.specs.Orders.{numbers_below}
use Rattle.query_orders.specs.Answers.{numbers_from}

pub sum_by-map : {X Y : Type 0} (f : Y → ℕ) (g : X → Y) (xs : List X) → sum_by f (map g xs) ≡ sum_by (λ x. f (g x)) xs
sum_by-map f g [] = refl
sum_by-map f g (x ∷ xs) = let a = sum_by-cons f (g x) (map g xs) in let b = sum_by-cons (λ x. f (g x)) x xs in let i = sum_by-map f g xs in omega arith

pub sum_by-flat_map : {X Y : Type 0} (f : Y → ℕ) (g : X → List Y) (xs : List X) → sum_by f (flat_map g xs) ≡ sum_by (λ x. sum_by f (g x)) xs
sum_by-flat_map f g [] = refl
sum_by-flat_map f g (x ∷ xs) =
    let a : sum_by f (flat_map g (x ∷ xs)) ≡ sum_by f (g x ++ flat_map g xs) = ap (sum_by f) (flat_map-cons g x xs) in
    let b = sum_by-append f (g x) (flat_map g xs) in
    let d = sum_by-cons (λ x. sum_by f (g x)) x xs in
    let i = sum_by-flat_map f g xs in
    omega arith

pub sum_by-same : {X : Type 0} (f g : X → ℕ) → ((x : X) → f x ≡ g x) → (xs : List X) → sum_by f xs ≡ sum_by g xs
sum_by-same f g h [] = refl
sum_by-same f g h (x ∷ xs) = let a = sum_by-cons f x xs in let b = sum_by-cons g x xs in let i = sum_by-same f g h xs in let e = h x in omega arith

-- a count as a sum
pub count-sum : {X : Type 0} (t : X → Bool) (xs : List X) → sum_by (λ x. cond (t x) 1 0) xs ≡ count_by t xs
count-sum t xs = is_count_by (sum_by (λ x. cond (t x) 1 0)) t refl step xs
  where
    step : (x : _) (xs : List _) → sum_by (λ x. cond (t x) 1 0) (x ∷ xs) ≡ cond (t x) (1 + sum_by (λ x. cond (t x) 1 0) xs) (sum_by (λ x. cond (t x) 1 0) xs)
    step x xs =
        let a = sum_by-cons (λ x. cond (t x) 1 0) x xs in
        elim (t x) as (λ b. sum_by (λ x. cond (t x) 1 0) (x ∷ xs) ≡ cond b 1 0 + sum_by (λ x. cond (t x) 1 0) xs → sum_by (λ x. cond (t x) 1 0) (x ∷ xs) ≡ cond b (1 + sum_by (λ x. cond (t x) 1 0) xs) (sum_by (λ x. cond (t x) 1 0) xs)) [
          | true ↦ (λ e. omega (arith, e))
          | false ↦ (λ e. omega (arith, e))
        ] a

-- a number among those from one on
abbrev pub hits : ℕ → ℕ → ℕ
hits k n = cond (n == k) 1 0

pub passed : (k n first : ℕ) → k < first → sum_by (hits k) (numbers_from first n) ≡ 0
passed k zero first lt = refl
passed k (suc n) first lt =
    let a = sum_by-cons (hits k) first (numbers_from (first + 1) n) in
    let i = passed k n (first + 1) (omega (arith, lt)) in
    elim (eqb_tells first k) as (λ _. sum_by (hits k) (first ∷ numbers_from (first + 1) n) ≡ 0) [
      | inl same ↦ absurd (let e = same.1 in omega (arith, e, lt))
      | inr other ↦ (let z : hits k first ≡ 0 = ap (λ b. cond b 1 0) other.0 in omega (arith, a, i, z))
    ]

pub to_come : (k n first : ℕ) → first ≤ k → k < first + n → sum_by (hits k) (numbers_from first n) ≡ 1
to_come k zero first le lt = absurd (omega (arith, le, lt))
to_come k (suc n) first le lt =
    let a = sum_by-cons (hits k) first (numbers_from (first + 1) n) in
    elim (eqb_tells first k) as (λ _. sum_by (hits k) (first ∷ numbers_from (first + 1) n) ≡ 1) [
      | inl same ↦ (
          let one : hits k first ≡ 1 = ap (λ b. cond b 1 0) same.0 in
          let e = same.1 in
          let i = passed k n (first + 1) (omega (arith, e)) in
          omega (arith, a, i, one))
      | inr other ↦ (
          let z : hits k first ≡ 0 = ap (λ b. cond b 1 0) other.0 in
          let ne : first ≢ k = other.1 in
          let i = to_come k n (first + 1) (omega (arith, le, ne)) (omega (arith, lt)) in
          omega (arith, a, i, z))
    ]

-- a sum over the numbers below one, of which one alone weighs
pub none-below : (g : ℕ → ℕ) (i n : ℕ) → ((j : ℕ) → j ≢ i → g j ≡ 0) → n ≤ i → sum_by g (numbers_below n) ≡ 0
none-below g i zero h le = refl
none-below g i (suc n) h le =
    let a = sum_by_push g (numbers_below n) n in
    let r = none-below g i n h (omega (arith, le)) in
    let z : g n ≡ 0 = h n (λ e. omega (arith, e, le)) in
    omega (arith, a, r, z)

pub one-below : (g : ℕ → ℕ) (i n : ℕ) → ((j : ℕ) → j ≢ i → g j ≡ 0) → i < n → sum_by g (numbers_below n) ≡ g i
one-below g i zero h lt = absurd (omega (arith, lt))
one-below g i (suc n) h lt =
    let a = sum_by_push g (numbers_below n) n in
    elim (eqb_tells n i) as (λ _. sum_by g (numbers_below n ++ n ∷ []) ≡ g i) [
      | inl same ↦ (
          let e : g n ≡ g i = ap g same.1 in
          let n-is = same.1 in
          let r = none-below g i n h (omega (arith, n-is)) in
          omega (arith, a, r, e))
      | inr other ↦ (
          let ne : n ≢ i = other.1 in
          let z : g n ≡ 0 = h n ne in
          let r = one-below g i n h (omega (arith, lt, ne)) in
          omega (arith, a, r, z))
    ]
