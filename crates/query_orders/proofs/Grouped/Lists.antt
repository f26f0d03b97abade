-- Elements of lists, by their places.
use Rattle.std.proofs.Common.{◌≡◌, ◌<◌, ◌+◌, ◌==◌, ℕ, zero, suc, Bool, true, false, cond, List, [], ◌∷◌, ◌++◌, map, filter, length, Some, get_or, inl, inr, refl, ap, sym, subst, ◌∙◌, arith, add-one}
use Rattle.std.specs.Prelude.{option_map, unwrap_or}
use Rattle.std.specs.List.{slice_get, AllByRecursion as Each}
use Rattle.std.proofs.lemmas.Option.{slice_get-map, slice_get-get_or, unwrap_or-slice_get}
use Rattle.std.proofs.lemmas.List.{get_or_append_left, map-append, append-nil}
use Rattle.std.proofs.lemmas.List.Elements.{filter-append}
use Rattle.std.proofs.Math.Seq.{get_or-append_seam}
use Rattle.std.proofs.lemmas.Bool.Decides.{eqb_tells}
use Rattle.query_orders.specs.Groups.{group_of_client}
use Rattle.query_orders.specs.Orders.{numbers_below}
use Rattle.query_orders.proofs.Contained.{each_append}

pub group_at : (groups : List ℕ) (client : ℕ) → client < length groups → slice_get groups client ≡ Some (group_of_client groups client)
group_at groups client lt = slice_get-get_or groups client client lt ∙ ap Some (sym (unwrap_or-slice_get groups client client))

pub group_mapped : (f : ℕ → ℕ) (groups : List ℕ) (client : ℕ) → client < length groups → group_of_client (map f groups) client ≡ f (group_of_client groups client)
group_mapped f groups client lt = ap (λ o. unwrap_or o client) (slice_get-map f groups client ∙ ap (option_map f) (group_at groups client lt))

-- ---- the numbers below one

length_longer : (xs : List ℕ) (x : ℕ) → length (xs ++ x ∷ []) ≡ suc (length xs)
length_longer [] x = refl
length_longer (y ∷ xs) x = ap suc (length_longer xs x)

pub length-below : (n : ℕ) → length (numbers_below n) ≡ n
length-below zero = refl
length-below (suc n) = length_longer (numbers_below n) n ∙ ap suc (length-below n)

below_at : (n at d : ℕ) → at < n → get_or (numbers_below n) at d ≡ at
below_at zero at d lt = absurd (omega (arith, lt))
below_at (suc n) at d lt = elim (eqb_tells at n) as (λ _. get_or (numbers_below n ++ n ∷ []) at d ≡ at) [
  | inl same ↦ ap (λ k. get_or (numbers_below n ++ n ∷ []) k d) (same.1 ∙ sym (length-below n)) ∙ get_or-append_seam (numbers_below n) n [] d ∙ sym same.1
  | inr other ↦
      (let ne = other.1 in
      let less : at < n = omega arith in
      get_or_append_left (numbers_below n) (n ∷ []) d at (subst (λ k. at < k) (sym (length-below n)) less) ∙ below_at n at d less)
]

slice_below : (n at : ℕ) → at < n → slice_get (numbers_below n) at ≡ Some at
slice_below n at lt = slice_get-get_or (numbers_below n) at at (subst (λ k. at < k) (sym (length-below n)) lt) ∙ ap Some (below_at n at at lt)

pub group_below : (n client : ℕ) → client < n → group_of_client (numbers_below n) client ≡ client
group_below n client lt = ap (λ o. unwrap_or o client) (slice_below n client lt)

pub mapped_below : {X : Type 0} (f : ℕ → X) (n at : ℕ) (d : X) → at < n → unwrap_or (slice_get (map f (numbers_below n)) at) d ≡ f at
mapped_below f n at d lt = ap (λ o. unwrap_or o d) (slice_get-map f (numbers_below n) at ∙ ap (option_map f) (slice_below n at lt))

-- one number more
pub mapped_more : {X Y : Type 0} (v : X → Y) (f : ℕ → Y) (xs : List X) (n : ℕ) (x : X) → map v xs ≡ map f (numbers_below n) → v x ≡ f n → map v (xs ++ x ∷ []) ≡ map f (numbers_below (n + 1))
mapped_more {X} {Y} v f xs n x so_far one =
    map-append v xs (x ∷ []) ∙ ap (λ (l : List Y). l ++ v x ∷ []) so_far ∙ ap (λ (y : Y). map f (numbers_below n) ++ y ∷ []) one
    ∙ sym (ap (λ k. map f (numbers_below k)) (add-one n) ∙ map-append f (numbers_below n) (n ∷ []))

pub filtered_more : {X : Type 0} (v : X → ℕ) (test : ℕ → Bool) (xs : List X) (n : ℕ) (x : X) → map v xs ≡ filter test (numbers_below n) → v x ≡ n → test n ≡ true → map v (xs ++ x ∷ []) ≡ filter test (numbers_below (n + 1))
filtered_more v test xs n x so_far one passes =
    map-append v xs (x ∷ []) ∙ ap (λ (l : List ℕ). l ++ v x ∷ []) so_far ∙ ap (λ k. filter test (numbers_below n) ++ k ∷ []) one
    ∙ sym (ap (λ k. filter test (numbers_below k)) (add-one n) ∙ filter-append test (numbers_below n) (n ∷ []) ∙ ap (λ b. filter test (numbers_below n) ++ cond b (n ∷ []) []) passes)

pub filtered_same : (test : ℕ → Bool) (ns : List ℕ) (n : ℕ) → ns ≡ filter test (numbers_below n) → test n ≡ false → ns ≡ filter test (numbers_below (n + 1))
filtered_same test ns n so_far fails =
    so_far ∙ sym (ap (λ k. filter test (numbers_below k)) (add-one n) ∙ filter-append test (numbers_below n) (n ∷ [])
    ∙ ap (λ b. filter test (numbers_below n) ++ cond b (n ∷ []) []) fails ∙ append-nil (filter test (numbers_below n)))

-- ---- facts of each element

pub each_none : {X : Type 0} (P : X → Type 0) (xs : List X) → xs ≡ [] → Each P xs
each_none {X} P xs none = subst (λ (l : List X). Each P l) (sym none) tt

pub each_more : {X : Type 0} (P : X → Type 0) (xs ys : List X) (x : X) → ys ≡ xs ++ x ∷ [] → Each P xs → P x → Each P ys
each_more {X} P xs ys x is so_far one = subst (λ (l : List X). Each P l) (sym is) (each_append P xs (x ∷ []) so_far (one, tt))

pub differs : (a b : ℕ) → (a ≡ b → ⊥) → (a == b) ≡ false
differs a b other = elim (eqb_tells a b) as (λ _. (a == b) ≡ false) [ inl same ↦ absurd (other same.1) | inr apart ↦ apart.0 ]
