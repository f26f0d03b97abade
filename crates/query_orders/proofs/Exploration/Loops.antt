-- What the loops have done so far.
use Rattle.std.proofs.Common.{◌≡◌, ℕ, ◌+◌, ◌<◌, Bool, List, [], ◌∷◌, ◌++◌, map, filter, length, get_or, ap, sym, subst, ◌∙◌, add-one}
use Rattle.std.proofs.lemmas.List.{map-append, append-nil}
use Rattle.std.proofs.lemmas.List.Concat.{flat_map-cons}
use Rattle.std.proofs.lemmas.Grind.{flat_map-append}
use Rattle.std.proofs.lemmas.List.Elements.{filter-append, All-from_recursion, All-get_or}
use Rattle.std.specs.List.{flat_map, AllByRecursion as Each}
use Rattle.kernel_lists.specs.Firsts.{with_firsts, with_counts_up_to, each_times}
use Rattle.kernel_lists.proofs.Merging.{with_firsts-append}
use Rattle.kernel_lists.proofs.Weights.{counts_up_to-append}
use Rattle.query_orders.specs.Orders.{numbers_below}

module _ {X : Type 0} (same : X → X → Bool) where
  -- one client more
  pub client_counted : (most n : ℕ) (f : ℕ → X) (t : ℕ → Bool) (l li l' : List (X × ℕ)) (k : ℕ) → li ≡ with_counts_up_to most same l (each_times n (map f (filter t (numbers_below k)))) → l' ≡ with_counts_up_to most same li (each_times n (map f (filter t (k ∷ [])))) →
      l' ≡ with_counts_up_to most same l (each_times n (map f (filter t (numbers_below (k + 1)))))
  client_counted most n f t l li l' k so_far now =
      let times : X → X × ℕ = λ (x : X). (x, n) in
      let parts : each_times n (map f (filter t (numbers_below (k + 1)))) ≡ each_times n (map f (filter t (numbers_below k))) ++ each_times n (map f (filter t (k ∷ []))) =
      ap (λ j. each_times n (map f (filter t (numbers_below j)))) (add-one k) ∙ ap (λ m. each_times n (map f m)) (filter-append t (numbers_below k) (k ∷ [])) ∙ ap (each_times n) (map-append f (filter t (numbers_below k)) (filter t (k ∷ [])))
      ∙ map-append times (map f (filter t (numbers_below k))) (map f (filter t (k ∷ []))) in
      now ∙ ap (λ m. with_counts_up_to most same m (each_times n (map f (filter t (k ∷ []))))) so_far
      ∙ sym (counts_up_to-append most same (each_times n (map f (filter t (numbers_below k)))) (each_times n (map f (filter t (k ∷ [])))) l)
      ∙ ap (with_counts_up_to most same l) (sym parts)

  -- what follows from one number more, of those that pass a test
  pub number_more : (next : ℕ → List X) (t : ℕ → Bool) (l li l' : List X) (k : ℕ) → li ≡ with_firsts same l (flat_map next (filter t (numbers_below k))) → l' ≡ with_firsts same li (flat_map next (filter t (k ∷ []))) →
      l' ≡ with_firsts same l (flat_map next (filter t (numbers_below (k + 1))))
  number_more next t l li l' k so_far now =
      let parts : flat_map next (filter t (numbers_below (k + 1))) ≡ flat_map next (filter t (numbers_below k)) ++ flat_map next (filter t (k ∷ [])) =
      ap (λ n. flat_map next (filter t (numbers_below n))) (add-one k) ∙ ap (flat_map next) (filter-append t (numbers_below k) (k ∷ [])) ∙ flat_map-append next (filter t (numbers_below k)) (filter t (k ∷ [])) in
      now ∙ ap (λ m. with_firsts same m (flat_map next (filter t (k ∷ [])))) so_far
      ∙ sym (with_firsts-append same (flat_map next (filter t (numbers_below k))) (flat_map next (filter t (k ∷ []))) l)
      ∙ ap (with_firsts same l) (sym parts)

-- what follows from one number more
module _ {X : Type 0} (same : X → X → Bool) where
  pub all_more : (next : ℕ → List X) (l li l' : List X) (k : ℕ) → li ≡ with_firsts same l (flat_map next (numbers_below k)) → l' ≡ with_firsts same li (next k) → l' ≡ with_firsts same l (flat_map next (numbers_below (k + 1)))
  all_more next l li l' k so_far now =
      let parts : flat_map next (numbers_below (k + 1)) ≡ flat_map next (numbers_below k) ++ next k =
      ap (λ n. flat_map next (numbers_below n)) (add-one k) ∙ flat_map-append next (numbers_below k) (k ∷ []) ∙ ap (λ m. flat_map next (numbers_below k) ++ m) (flat_map-cons next k [] ∙ append-nil (next k)) in
      now ∙ ap (λ m. with_firsts same m (next k)) so_far ∙ sym (with_firsts-append same (flat_map next (numbers_below k)) (next k) l) ∙ ap (with_firsts same l) (sym parts)

pub each_at : {X : Type 0} (P : X → Type 0) (xs : List X) (i : ℕ) (x : X) → i < length xs → x ≡ get_or xs i x → Each P xs → P x
each_at P xs i x lt is h = subst P (sym is) (All-get_or P xs i x lt (All-from_recursion P xs h))
