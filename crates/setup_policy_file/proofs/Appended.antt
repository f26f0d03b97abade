-- Loops that add what each element of a list gives.
use Rattle.std.proofs.Common.{◌≡◌, ℕ, ◌+◌, ◌<◌, List, [], ◌∷◌, ◌++◌, length, get_or, drop, map, sym, ◌∙◌, append_assoc}
use Rattle.std.specs.List.{enumerate_from, flat_map}
use Rattle.std.proofs.lemmas.List.{drop_more, append-nil}

-- one element more, which gives a list
module _ {X A B : Type 0} (f : A → List B) (v : X → A) where
  pub list_more : (old new whole : List B) (i : ℕ) (xs : List X) (d : X) → i < length xs
      → new ≡ old ++ f (v (get_or xs i d)) → old ++ flat_map f (map v (drop i xs)) ≡ whole
      → new ++ flat_map f (map v (drop (i + 1) xs)) ≡ whole
  list_more old new whole i xs d lt added so_far =
      let one : old ++ flat_map f (map v (drop i xs)) ≡ new ++ flat_map f (map v (drop (i + 1) xs)) =
      rw (drop_more xs i d lt, added) (sym (append_assoc old (f (v (get_or xs i d))) (flat_map f (map v (drop (i + 1) xs))))) in
      sym one ∙ so_far

  pub all_lists : (old whole : List B) (i : ℕ) (xs : List X) → drop i xs ≡ []
      → old ++ flat_map f (map v (drop i xs)) ≡ whole → old ≡ whole
  all_lists old whole i xs none so_far =
      let one : old ++ flat_map f (map v (drop i xs)) ≡ old = rw none (append-nil old) in
      sym one ∙ so_far

-- the same, where the element has its place
module _ {X A B : Type 0} (f : ℕ × A → List B) (v : X → A) where
  pub numbered_more : (old new whole : List B) (i : ℕ) (xs : List X) (d : X) → i < length xs
      → new ≡ old ++ f (i, v (get_or xs i d)) → old ++ flat_map f (enumerate_from i (map v (drop i xs))) ≡ whole
      → new ++ flat_map f (enumerate_from (i + 1) (map v (drop (i + 1) xs))) ≡ whole
  numbered_more old new whole i xs d lt added so_far =
      let rest = flat_map f (enumerate_from (i + 1) (map v (drop (i + 1) xs))) in
      let one : old ++ flat_map f (enumerate_from i (map v (drop i xs))) ≡ new ++ rest =
      rw (drop_more xs i d lt, added) (sym (append_assoc old (f (i, v (get_or xs i d))) rest)) in
      sym one ∙ so_far

  pub all_numbered : (old whole : List B) (i : ℕ) (xs : List X) → drop i xs ≡ []
      → old ++ flat_map f (enumerate_from i (map v (drop i xs))) ≡ whole → old ≡ whole
  all_numbered old whole i xs none so_far =
      let one : old ++ flat_map f (enumerate_from i (map v (drop i xs))) ≡ old = rw none (append-nil old) in
      sym one ∙ so_far

-- the same, where it gives one
module _ {X A B : Type 0} (f : A → B) (v : X → A) where
  pub one_more : (old new whole : List B) (i : ℕ) (xs : List X) (d : X) → i < length xs
      → new ≡ old ++ f (v (get_or xs i d)) ∷ [] → old ++ map f (map v (drop i xs)) ≡ whole
      → new ++ map f (map v (drop (i + 1) xs)) ≡ whole
  one_more old new whole i xs d lt added so_far =
      let one : old ++ map f (map v (drop i xs)) ≡ new ++ map f (map v (drop (i + 1) xs)) =
      rw (drop_more xs i d lt, added) (sym (append_assoc old (f (v (get_or xs i d)) ∷ []) (map f (map v (drop (i + 1) xs))))) in
      sym one ∙ so_far

  pub all_ones : (old whole : List B) (i : ℕ) (xs : List X) → drop i xs ≡ []
      → old ++ map f (map v (drop i xs)) ≡ whole → old ≡ whole
  all_ones old whole i xs none so_far =
      let one : old ++ map f (map v (drop i xs)) ≡ old = rw none (append-nil old) in
      sym one ∙ so_far
