-- What lists contain, by tests and by places.
use Rattle.std.proofs.Common.{◌≡◌, ℕ, zero, suc, ◌<◌, ◌≤◌, Bool, true, false, ◌||◌, ◌&&◌, List, [], ◌∷◌, drop, Option, None, Some, slice_get, refl, ap, sym, ◌∙◌, inl, inr, arith}
use Rattle.std.specs.List.{Contains, list_any, AllByRecursion as Each}
use Rattle.std.proofs.lemmas.Bool.{false≢true}
use Rattle.std.proofs.lemmas.List.Elements.{Contains-push_cases}
use Rattle.query_orders.specs.Orders.{numbers_below}
use Rattle.query_orders.proofs.Contained.{contains-nil, contains-head, contains-tail, contains-cases}

pub both_true : (a b : Bool) → a ≡ true → b ≡ true → (a && b) ≡ true
both_true true b e h = h
both_true false b e h = e

pub true_parts : (a b : Bool) → (a && b) ≡ true → (a ≡ true) × (b ≡ true)
true_parts true b h = (refl, h)
true_parts false b h = absurd (false≢true h)

pub or_right : (a b : Bool) → b ≡ true → (a || b) ≡ true
or_right true b h = refl
or_right false b h = h

pub or_left : (a b : Bool) → a ≡ true → (a || b) ≡ true
or_left true b h = refl
or_left false b h = absurd (false≢true h)

false_parts : (a b : Bool) → (a || b) ≡ false → (a ≡ false) × (b ≡ false)
false_parts true b h = absurd (false≢true (sym h))
false_parts false b h = (refl, h)

module _ {X : Type 0} where
  pub any_of : (t : X → Bool) (xs : List X) (x : X) → Contains xs x → t x ≡ true → list_any t xs ≡ true
  any_of t [] x h is = absurd (contains-nil x h)
  any_of t (y ∷ xs) x h is = elim (contains-cases y xs x h) as (λ _. (t y || list_any t xs) ≡ true) [
    | inl same ↦ or_left (t y) (list_any t xs) (ap t same ∙ is)
    | inr more ↦ or_right (t y) (list_any t xs) (any_of t xs x more is)
  ]

  pub some_of : (t : X → Bool) (xs : List X) → list_any t xs ≡ true → (x : X) × Contains xs x × (t x ≡ true)
  some_of t [] h = absurd (false≢true h)
  some_of t (y ∷ xs) h = by (some_of t xs) (t y) refl h
    where
      by : (list_any t xs ≡ true → (x : X) × Contains xs x × (t x ≡ true)) → (b : Bool) → t y ≡ b → (b || list_any t xs) ≡ true → (x : X) × Contains (y ∷ xs) x × (t x ≡ true)
      by rest true is h = (y, contains-head y xs y refl, is)
      by rest false is h = let r = rest h in (r.0, contains-tail y xs r.0 r.1, r.2)

  pub none_of : (t : X → Bool) (xs : List X) (x : X) → list_any t xs ≡ false → Contains xs x → t x ≡ false
  none_of t [] x h c = absurd (contains-nil x c)
  none_of t (y ∷ xs) x h c =
      let parts = false_parts (t y) (list_any t xs) h in
      elim (contains-cases y xs x c) as (λ _. t x ≡ false) [ inl same ↦ ap t (sym same) ∙ parts.0 | inr more ↦ none_of t xs x parts.1 more ]

  pub each_contained : (P : X → Type 0) (xs : List X) → ((x : X) → Contains xs x → P x) → Each P xs
  each_contained P [] h = tt
  each_contained P (x ∷ xs) h = (h x (contains-head x xs x refl), each_contained P xs (λ y c. h y (contains-tail x xs y c)))

  pub contains_at : (xs : List X) (i : ℕ) (x : X) → slice_get xs i ≡ Some x → Contains xs x
  contains_at [] i x h = absurd (let no : ◌≡◌ {A = Option X} None (Some x) = h in cc)
  contains_at (y ∷ xs) zero x h = contains-head y xs x (let is : Some y ≡ Some x = h in cc)
  contains_at (y ∷ xs) (suc i) x h = contains-tail y xs x (contains_at xs i x h)

  pub contains_dropped : (n : ℕ) (xs : List X) (i : ℕ) (x : X) → n ≤ i → slice_get xs i ≡ Some x → Contains (drop n xs) x
  contains_dropped zero xs i x le h = contains_at xs i x h
  contains_dropped (suc n) [] i x le h = absurd (let no : ◌≡◌ {A = Option X} None (Some x) = h in cc)
  contains_dropped (suc n) (y ∷ xs) zero x le h = absurd (omega (arith, le))
  contains_dropped (suc n) (y ∷ xs) (suc i) x le h = contains_dropped n xs i x (omega (arith, le)) h

pub below_contained : (n k : ℕ) → Contains (numbers_below n) k → k < n
below_contained zero k h = absurd (contains-nil k h)
below_contained (suc n) k h = elim (Contains-push_cases (numbers_below n) n k h) as (λ _. k < suc n) [
  | inl before ↦ (let lt = below_contained n k before in omega (arith, lt))
  | inr same ↦ omega (arith, same)
]

pub each_below : (n : ℕ) → Each (λ k. k < n) (numbers_below n)
each_below n = each_contained (λ k. k < n) (numbers_below n) (below_contained n)
