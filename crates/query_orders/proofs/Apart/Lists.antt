-- What tests pass of lists.
use Rattle.std.proofs.Common.{◌≡◌, Bool, true, false, cond, List, [], ◌∷◌, map, filter, drop, refl, ap, sym, ◌∙◌}
use Rattle.std.specs.List.{AllByRecursion as Each}

module _ {X : Type 0} where
  pub taken : (t : X → Bool) (x : X) (xs : List X) → t x ≡ true → filter t (x ∷ xs) ≡ x ∷ filter t xs
  taken t x xs e = ap (λ b. cond b (x ∷ filter t xs) (filter t xs)) e

  pub skipped : (t : X → Bool) (x : X) (xs : List X) → t x ≡ false → filter t (x ∷ xs) ≡ filter t xs
  skipped t x xs e = ap (λ b. cond b (x ∷ filter t xs) (filter t xs)) e

  -- two tests, in either order
  pub filters_swap : (s t : X → Bool) (xs : List X) → filter s (filter t xs) ≡ filter t (filter s xs)
  filters_swap s t [] = refl
  filters_swap s t (x ∷ xs) = by (filters_swap s t xs) (s x) (t x) refl refl
    where
      by : filter s (filter t xs) ≡ filter t (filter s xs) → (a b : Bool) → s x ≡ a → t x ≡ b → filter s (filter t (x ∷ xs)) ≡ filter t (filter s (x ∷ xs))
      by rest true true e f =
          ap (filter s) (taken t x xs f) ∙ taken s x (filter t xs) e ∙ ap (λ (l : List X). x ∷ l) rest
          ∙ sym (taken t x (filter s xs) f) ∙ ap (filter t) (sym (taken s x xs e))
      by rest true false e f = ap (filter s) (skipped t x xs f) ∙ rest ∙ sym (skipped t x (filter s xs) f) ∙ ap (filter t) (sym (taken s x xs e))
      by rest false true e f = ap (filter s) (taken t x xs f) ∙ skipped s x (filter t xs) e ∙ rest ∙ ap (filter t) (sym (skipped s x xs e))
      by rest false false e f = ap (filter s) (skipped t x xs f) ∙ rest ∙ ap (filter t) (sym (skipped s x xs e))

  -- two tests that agree on a list's elements
  pub filter_alike : (P : X → Type 0) (s t : X → Bool) → ((x : X) → P x → s x ≡ t x) → (xs : List X) → Each P xs → filter s xs ≡ filter t xs
  filter_alike P s t f [] h = refl
  filter_alike P s t f (x ∷ xs) h =
      ap (λ b. cond b (x ∷ filter s xs) (filter s xs)) (f x h.0) ∙ ap (λ (l : List X). cond (t x) (x ∷ l) l) (filter_alike P s t f xs h.1)

  pub filter_whole : (t : X → Bool) (xs : List X) → Each (λ x. t x ≡ true) xs → filter t xs ≡ xs
  filter_whole t [] h = refl
  filter_whole t (x ∷ xs) h = taken t x xs h.0 ∙ ap (λ (l : List X). x ∷ l) (filter_whole t xs h.1)

  pub filter_nothing : (t : X → Bool) (xs : List X) → Each (λ x. t x ≡ false) xs → filter t xs ≡ []
  filter_nothing t [] h = refl
  filter_nothing t (x ∷ xs) h = skipped t x xs h.0 ∙ filter_nothing t xs h.1

  -- a test that takes out nothing that another passes
  pub filter_only : (s t : X → Bool) (xs : List X) → Each (λ x. t x ≡ false → s x ≡ false) xs → filter s (filter t xs) ≡ filter s xs
  filter_only s t [] h = refl
  filter_only s t (x ∷ xs) h = by (filter_only s t xs h.1) (t x) refl
    where
      by : filter s (filter t xs) ≡ filter s xs → (b : Bool) → t x ≡ b → filter s (filter t (x ∷ xs)) ≡ filter s (x ∷ xs)
      by rest true e = ap (filter s) (taken t x xs e) ∙ ap (λ (l : List X). cond (s x) (x ∷ l) l) rest
      by rest false e = ap (filter s) (skipped t x xs e) ∙ rest ∙ sym (skipped s x xs (h.0 e))

  -- ---- facts of each element

  pub each_of : (P : X → Type 0) → ((x : X) → P x) → (xs : List X) → Each P xs
  each_of P h [] = tt
  each_of P h (x ∷ xs) = (h x, each_of P h xs)

  pub each_weaker : (P Q : X → Type 0) → ((x : X) → P x → Q x) → (xs : List X) → Each P xs → Each Q xs
  each_weaker P Q f [] h = tt
  each_weaker P Q f (x ∷ xs) h = (f x h.0, each_weaker P Q f xs h.1)

  pub each_both : (P Q : X → Type 0) (xs : List X) → Each P xs → Each Q xs → Each (λ x. P x × Q x) xs
  each_both P Q [] h k = tt
  each_both P Q (x ∷ xs) h k = ((h.0, k.0), each_both P Q xs h.1 k.1)

  pub each_filter : (P : X → Type 0) (t : X → Bool) (xs : List X) → Each P xs → Each P (filter t xs)
  each_filter P t [] h = tt
  each_filter P t (x ∷ xs) h = elim (t x) as (λ b. Each P (cond b (x ∷ filter t xs) (filter t xs))) [ true ↦ (h.0, each_filter P t xs h.1) | false ↦ each_filter P t xs h.1 ]

  pub each_passes : (t : X → Bool) (xs : List X) → Each (λ x. t x ≡ true) (filter t xs)
  each_passes t [] = tt
  each_passes t (x ∷ xs) =
      let rest = each_passes t xs in
      elim (t x) as (λ b. t x ≡ b → Each (λ y. t y ≡ true) (cond b (x ∷ filter t xs) (filter t xs))) [ true ↦ (λ e. (e, rest)) | false ↦ (λ e. rest) ] refl

pub each_rest : {X : Type 0} (P : X → Type 0) (xs : List X) → Each P xs → Each P (drop 1 xs)
each_rest P [] h = tt
each_rest P (x ∷ xs) h = h.1

-- facts of what a function gives
pub each_map : {X Y : Type 0} (P : Y → Type 0) (f : X → Y) (xs : List X) → Each (λ x. P (f x)) xs → Each P (map f xs)
each_map P f [] h = tt
each_map P f (x ∷ xs) h = (h.0, each_map P f xs h.1)

-- a test of what a function gives
pub filter_of_map : {X Y : Type 0} (f : X → Y) (t : Y → Bool) (xs : List X) → filter t (map f xs) ≡ map f (filter (λ x. t (f x)) xs)
filter_of_map f t [] = refl
filter_of_map {X} {Y} f t (x ∷ xs) = elim (t (f x)) as (λ b. cond b (f x ∷ filter t (map f xs)) (filter t (map f xs)) ≡ map f (cond b (x ∷ filter (λ y. t (f y)) xs) (filter (λ y. t (f y)) xs))) [
  | true ↦ ap (λ (l : List Y). f x ∷ l) (filter_of_map f t xs)
  | false ↦ filter_of_map f t xs
]
