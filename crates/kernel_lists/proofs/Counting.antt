-- How many of a list belong to each key.
use Rattle.std.proofs.Common.{◌≡◌, ℕ, zero, suc, ◌+◌, ◌<◌, ◌≤◌, ◌==◌, ◌&&◌, nat_lt, Bool, true, false, cond, List, [], ◌∷◌, filter, count_by, length, take, get_or, refl, ap, sym, ◌∙◌, subst, arith, add-one}
use Rattle.std.proofs.lemmas.List.Sums.{length-filter, sum_by_more, sum_by-cons, count_by-le-length}
use Rattle.std.proofs.lemmas.Bool.Decides.{nat_tests}
use Rattle.std.specs.List.{sum_by}
use Rattle.kernel_lists.specs.Shares.{total}

-- ---- sums over the first numbers

pub total-mono : (n : ℕ) (f g : ℕ → ℕ) → ((i : ℕ) → i < n → f i ≤ g i) → total n f ≤ total n g
unfolding total
total-mono zero f g le = omega arith
total-mono (suc n) f g le = let h = total-mono n f g (λ i lt. le i (omega arith)) in let l = le n (omega arith) in omega arith

-- where each term is at most another's and the sum is not less, the terms are the same
pub squeezed : (n : ℕ) (f g : ℕ → ℕ) → ((i : ℕ) → i < n → f i ≤ g i) → total n g ≤ total n f → (i : ℕ) → i < n → f i ≡ g i
unfolding total
squeezed zero f g le sum i lt = absurd (omega arith)
squeezed (suc n) f g le sum i lt =
    let m = total-mono n f g (λ i lt. le i (omega arith)) in
    let l = le n (omega arith) in
    elim (i == n) as (λ t. (i == n) ≡ t → f i ≡ g i) [
      | true ↦ λ e. (let at : i ≡ n = grind (arith, nat_tests) in let last : f n ≡ g n = omega arith in subst (λ k. f k ≡ g k) (sym at) last)
      | false ↦ λ e. (let other : i < n = grind (arith, nat_tests) in squeezed n f g (λ i lt. le i (omega arith)) (omega arith) i other)
    ] refl

total-later : (n i : ℕ) (f : ℕ → ℕ) → n ≤ i → total n f ≤ total i f
unfolding total
total-later n zero f le = let e : n ≡ 0 = omega arith in subst (λ k. total k f ≤ 0) (sym e) (omega arith)
total-later n (suc i) f le =
    elim (n == suc i) as (λ t. (n == suc i) ≡ t → total n f ≤ total i f + f i) [
      | true ↦ λ e. (let at : n ≡ suc i = grind (arith, nat_tests) in subst (λ k. total k f ≤ total i f + f i) (sym at) (omega arith))
      | false ↦ λ e. (let other : n ≤ i = grind (arith, nat_tests) in let h = total-later n i f other in omega arith)
    ] refl

pub total-same : (n : ℕ) (f g : ℕ → ℕ) → ((i : ℕ) → i < n → f i ≡ g i) → total n f ≡ total n g
unfolding total
total-same zero f g e = refl
total-same (suc n) f g e = let h = total-same n f g (λ i lt. e i (omega arith)) in let l = e n (omega arith) in omega arith

-- the sum over a list, by its places
pub total-sum_by : {X : Type 0} (f : X → ℕ) (xs : List X) (d : X) (n : ℕ) → n ≤ length xs → total n (λ i. f (get_or xs i d)) ≡ sum_by f (take n xs)
unfolding total
total-sum_by f xs d zero le = refl
total-sum_by f xs d (suc n) le =
    let h = total-sum_by f xs d n (omega arith) in
    let m = sum_by_more f xs n d (omega arith) in
    let e : take (suc n) xs ≡ take (n + 1) xs = ap (λ k. take k xs) (sym (add-one n)) in
    ap (λ k. k + f (get_or xs n d)) h ∙ sym m ∙ ap (sum_by f) (sym e)

-- ---- keys

module _ {X : Type 0} (key : X → ℕ) where
  one_more : (n : ℕ) (x : X) → cond (nat_lt (key x) (suc n)) 1 0 ≡ cond (nat_lt (key x) n) 1 0 + cond (key x == n) 1 0
  one_more n x =
      elim (nat_lt (key x) n) as (λ t. nat_lt (key x) n ≡ t → cond (nat_lt (key x) (suc n)) 1 0 ≡ cond t 1 0 + cond (key x == n) 1 0) [
        | true ↦ λ e. (let a : nat_lt (key x) (suc n) ≡ true = grind (arith, nat_tests) in let b : (key x == n) ≡ false = grind (arith, nat_tests) in rw (a, b) refl)
        | false ↦ λ e. elim (key x == n) as (λ t. (key x == n) ≡ t → cond (nat_lt (key x) (suc n)) 1 0 ≡ 0 + cond t 1 0) [
          | true ↦ λ f. (let a : nat_lt (key x) (suc n) ≡ true = grind (arith, nat_tests) in rw a refl)
          | false ↦ λ f. (let a : nat_lt (key x) (suc n) ≡ false = grind (arith, nat_tests) in rw a refl)
        ] refl
      ] refl

  count_more : (n : ℕ) (xs : List X) → count_by (λ x. nat_lt (key x) (suc n)) xs ≡ count_by (λ x. nat_lt (key x) n) xs + count_by (λ x. key x == n) xs
  count_more n [] = refl
  count_more n (x ∷ xs) =
      let h = count_more n xs in
      let o = one_more n x in
      let a = sum_by-cons (λ x. cond (nat_lt (key x) (suc n)) 1 0) x xs in
      let b = sum_by-cons (λ x. cond (nat_lt (key x) n) 1 0) x xs in
      let c = sum_by-cons (λ x. cond (key x == n) 1 0) x xs in
      omega arith

  none_below : (xs : List X) → count_by (λ x. nat_lt (key x) 0) xs ≡ 0
  none_below [] = refl
  none_below (x ∷ xs) = let h = none_below xs in let a : nat_lt (key x) 0 ≡ false = grind (arith, nat_tests) in rw a h

  -- the elements with a key below a number, by key
  pub total-keys : (n : ℕ) (xs : List X) → total n (λ i. count_by (λ x. key x == i) xs) ≡ count_by (λ x. nat_lt (key x) n) xs
  unfolding total
  total-keys zero xs = sym (none_below xs)
  total-keys (suc n) xs = ap (λ k. k + count_by (λ x. key x == n) xs) (total-keys n xs) ∙ sym (count_more n xs)

  pub total-keys-le : (n : ℕ) (xs : List X) → total n (λ i. count_by (λ x. key x == i) xs) ≤ length xs
  total-keys-le n xs = let t = total-keys n xs in let l = count_by-le-length (λ x. nat_lt (key x) n) xs in omega arith

  -- where the counts below a number make up the whole list, no other key has any
  pub no_others : (n i : ℕ) (xs : List X) → n ≤ i → length xs ≤ total n (λ i. count_by (λ x. key x == i) xs) → count_by (λ x. key x == i) xs ≡ 0
  unfolding total
  no_others n i xs le whole =
      let more = total-later n i (λ i. count_by (λ x. key x == i) xs) le in
      let all : total i (λ i. count_by (λ x. key x == i) xs) + count_by (λ x. key x == i) xs ≤ length xs = total-keys-le (suc i) xs in
      omega arith

-- ---- the elements that pass a test

one_le : {X : Type 0} (p q : X → Bool) (x : X) → cond (p x && q x) 1 0 ≤ cond (p x) 1 0
one_le p q x = elim (p x) as (λ t. cond (t && q x) 1 0 ≤ cond t 1 0) [
  | true ↦ elim (q x) as (λ t. cond t 1 0 ≤ 1) [ true ↦ omega arith | false ↦ omega arith ]
  | false ↦ omega arith
]

pub both_le : {X : Type 0} (p q : X → Bool) (xs : List X) → count_by (λ x. p x && q x) xs ≤ count_by p xs
both_le p q [] = omega arith
both_le p q (x ∷ xs) =
    let h = both_le p q xs in
    let o = one_le p q x in
    let a = sum_by-cons (λ x. cond (p x) 1 0) x xs in
    let b = sum_by-cons (λ x. cond (p x && q x) 1 0) x xs in
    omega arith

pub no_length : {X : Type 0} (xs : List X) → length xs ≡ 0 → xs ≡ []
no_length [] e = refl
no_length (x ∷ xs) e = absurd (omega arith)

-- where as many pass two tests as pass the first, the same ones do
first_same : {X : Type 0} (p q : X → Bool) (x : X) (xs : List X) (s t : Bool) → p x ≡ s → q x ≡ t → (s ≡ true → t ≡ true) → filter (λ x. p x && q x) xs ≡ filter p xs → filter (λ x. p x && q x) (x ∷ xs) ≡ filter p (x ∷ xs)
first_same p q x xs false t e f all rest = rw e rest
first_same p q x xs true true e f all rest = rw (e, f) (ap (λ l. x ∷ l) rest)
first_same p q x xs true false e f all rest = absurd (let h : false ≡ true = all refl in cc)

counted_first : (s t : Bool) (a b c d : ℕ) → c ≡ cond s 1 0 + a → d ≡ cond (s && t) 1 0 + b → b ≤ a → c ≤ d → (a ≤ b) × (s ≡ true → t ≡ true)
counted_first true true a b c d e f le h = (omega arith, λ s. refl)
counted_first true false a b c d e f le h = absurd (omega arith)
counted_first false t a b c d e f le h = (omega arith, λ s. absurd (let w : false ≡ true = s in cc))

pub both_same : {X : Type 0} (p q : X → Bool) (xs : List X) → count_by p xs ≤ count_by (λ x. p x && q x) xs → filter (λ x. p x && q x) xs ≡ filter p xs
both_same p q [] le = refl
both_same p q (x ∷ xs) le =
    let w = counted_first (p x) (q x) _ _ _ _ (sum_by-cons (λ x. cond (p x) 1 0) x xs) (sum_by-cons (λ x. cond (p x && q x) 1 0) x xs) (both_le p q xs) le in
    first_same p q x xs (p x) (q x) refl refl w.1 (both_same p q xs w.0)

-- none pass where none are counted
pub none_pass : {X : Type 0} (p : X → Bool) (xs : List X) → count_by p xs ≡ 0 → filter p xs ≡ []
none_pass p xs e = no_length (filter p xs) (length-filter p xs ∙ e)
