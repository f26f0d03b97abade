-- What lists that are made of others contain.
use Rattle.std.proofs.Common.{◌≡◌, ◌⊎◌, ℕ, zero, suc, ◌<◌, Bool, true, false, cond, List, [], ◌∷◌, ◌++◌, map, filter, refl, ap, sym, subst, ◌∙◌, inl, inr, arith}
use Rattle.std.specs.List.{Contains, flat_map, AllByRecursion as Each}
use Rattle.std.proofs.lemmas.List.Concat.{flat_map-cons}
use Rattle.std.proofs.lemmas.List.Elements.{Contains-append_left, Contains-append_right, Contains-append_cases, Contains-push, Contains-push_cases, All-contains, All-from_recursion}
use Rattle.std.proofs.lemmas.Bool.Decides.{nat_tests, eqb_tells}
use Rattle.query_orders.specs.Orders.{numbers_below}

pub contains-nil : {X : Type 0} (x : X) → Contains [] x → ⊥
contains-nil x h = let lt : h.0 < 0 = h.1 in omega (arith, lt)

contains-one : {X : Type 0} (y x : X) → Contains (y ∷ []) x → y ≡ x
contains-one {X} y x h = elim (Contains-push_cases [] y x h) [ inl absent ↦ absurd (contains-nil x absent) | inr e ↦ e ]

pub contains-cases : {X : Type 0} (y : X) (ys : List X) (x : X) → Contains (y ∷ ys) x → (y ≡ x) ⊎ Contains ys x
contains-cases {X} y ys x h = elim (Contains-append_cases (y ∷ []) ys x h) as (λ _. (y ≡ x) ⊎ Contains ys x) [ inl one ↦ inl (contains-one y x one) | inr more ↦ inr more ]

pub contains-head : {X : Type 0} (y : X) (ys : List X) (x : X) → y ≡ x → Contains (y ∷ ys) x
contains-head {X} y ys x e = subst (λ (z : X). Contains (y ∷ ys) z) e (Contains-append_left (y ∷ []) ys y (Contains-push [] y))

pub contains-tail : {X : Type 0} (y : X) (ys : List X) (x : X) → Contains ys x → Contains (y ∷ ys) x
contains-tail y ys x h = Contains-append_right (y ∷ []) ys x h

pub each-contained : {X : Type 0} (P : X → Type 0) (xs : List X) (x : X) → Each P xs → Contains xs x → P x
each-contained P xs x h m = All-contains P xs x (All-from_recursion P xs h) m

pub contains-map : {X Y : Type 0} (f : X → Y) (xs : List X) (x : X) → Contains xs x → Contains (map f xs) (f x)
contains-map f [] x h = absurd (contains-nil x h)
contains-map f (y ∷ xs) x h = elim (contains-cases y xs x h) as (λ _. Contains (map f (y ∷ xs)) (f x)) [
  | inl e ↦ contains-head (f y) (map f xs) (f x) (ap f e)
  | inr more ↦ contains-tail (f y) (map f xs) (f x) (contains-map f xs x more)
]

pub contains-filter : {X : Type 0} (t : X → Bool) (xs : List X) (x : X) → Contains xs x → t x ≡ true → Contains (filter t xs) x
contains-filter t [] x h p = absurd (contains-nil x h)
contains-filter {X} t (y ∷ xs) x h p = elim (contains-cases y xs x h) as (λ _. Contains (filter t (y ∷ xs)) x) [
  | inl e ↦ subst (λ b. Contains (cond b (y ∷ filter t xs) (filter t xs)) x) (sym (ap t e ∙ p)) (contains-head y (filter t xs) x e)
  | inr more ↦ (let rest = contains-filter t xs x more p in elim (t y) as (λ b. Contains (cond b (y ∷ filter t xs) (filter t xs)) x) [ true ↦ contains-tail y (filter t xs) x rest | false ↦ rest ])
]

pub contains-flat_map : {X Y : Type 0} (f : X → List Y) (xs : List X) (x : X) (y : Y) → Contains xs x → Contains (f x) y → Contains (flat_map f xs) y
contains-flat_map f [] x y h k = absurd (contains-nil x h)
contains-flat_map {X} {Y} f (z ∷ xs) x y h k =
    subst (λ (l : List Y). Contains l y) (sym (flat_map-cons f z xs))
    (elim (contains-cases z xs x h) as (λ _. Contains (f z ++ flat_map f xs) y) [
      | inl e ↦ Contains-append_left (f z) (flat_map f xs) y (subst (λ (u : X). Contains (f u) y) (sym e) k)
      | inr more ↦ Contains-append_right (f z) (flat_map f xs) y (contains-flat_map f xs x y more k)
    ])

pub contains-below : (n k : ℕ) → k < n → Contains (numbers_below n) k
contains-below zero k lt = absurd (omega (arith, lt))
contains-below (suc n) k lt = elim (eqb_tells k n) as (λ _. Contains (numbers_below n ++ n ∷ []) k) [
  | inl same ↦ subst (λ m. Contains (numbers_below n ++ n ∷ []) m) (sym same.1) (Contains-push (numbers_below n) n)
  | inr other ↦ (let ne = other.0 in let less : k < n = grind (arith, nat_tests) in Contains-append_left (numbers_below n) (n ∷ []) k (contains-below n k less))
]

-- ---- facts of each element

pub each_append : {X : Type 0} (P : X → Type 0) (us vs : List X) → Each P us → Each P vs → Each P (us ++ vs)
each_append P [] vs h k = k
each_append P (u ∷ us) vs h k = (h.0, each_append P us vs h.1 k)

pub each-flat_map : {X Y : Type 0} (P : X → Type 0) (Q : Y → Type 0) (f : X → List Y) → ((x : X) → P x → Each Q (f x)) → (xs : List X) → Each P xs → Each Q (flat_map f xs)
each-flat_map P Q f h [] all = tt
each-flat_map {X} {Y} P Q f h (x ∷ xs) all = subst (λ (l : List Y). Each Q l) (sym (flat_map-cons f x xs)) (each_append Q (f x) (flat_map f xs) (h x all.0) (each-flat_map P Q f h xs all.1))

pub each-filter_map : {X Y : Type 0} (t : X → Bool) (Q : Y → Type 0) (f : X → Y) → ((x : X) → t x ≡ true → Q (f x)) → (xs : List X) → Each Q (map f (filter t xs))
each-filter_map t Q f h [] = tt
each-filter_map t Q f h (x ∷ xs) =
    let rest = each-filter_map t Q f h xs in
    elim (t x) as (λ b. t x ≡ b → Each Q (map f (cond b (x ∷ filter t xs) (filter t xs)))) [ true ↦ (λ e. (h x e, rest)) | false ↦ (λ e. rest) ] refl
