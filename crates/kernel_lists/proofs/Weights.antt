-- A list with a count for each kind weighs as much as the list that was counted.
use Rattle.std.proofs.Common.{◌≡◌, ℕ, ◌+◌, ◌*◌, min, Bool, true, false, cond, ◌||◌, List, [], ◌∷◌, ◌++◌, map, refl, ap, sym, ◌∙◌, arith}
use Rattle.std.proofs.lemmas.List.{map-append}
use Rattle.std.proofs.lemmas.List.Sums.{sum_by-append, sum_by-cons}
use Rattle.std.proofs.lemmas.List.Concat.{flat_map-cons}
use Rattle.std.specs.List.{flat_map, list_any, sum_by}
use Rattle.kernel_lists.specs.Firsts.{with_first, with_firsts, with_count, with_counts, with_count_up_to, with_counts_up_to, each_times, weight}

weight-cons : {X : Type 0} (f : X → ℕ) (x : X × ℕ) (xs : List (X × ℕ)) → weight f (x ∷ xs) ≡ x.1 * f x.0 + weight f xs
weight-cons f x xs = sum_by-cons (λ y. y.1 * f y.0) x xs

module _ {X : Type 0} (same : X → X → Bool) (f : X → ℕ) (respects : (x y : X) → same x y ≡ true → f x ≡ f y) where
  weight-with_count : (ys : List (X × ℕ)) (x : X × ℕ) → weight f (with_count same ys x) ≡ weight f ys + x.1 * f x.0
  weight-with_count [] x = let a = weight-cons f x [] in omega arith
  weight-with_count (y ∷ ys) x =
      let a = weight-cons f y ys in
      elim (same y.0 x.0) as (λ b. same y.0 x.0 ≡ b → weight f (cond b ((y.0, y.1 + x.1) ∷ ys) (y ∷ with_count same ys x)) ≡ weight f (y ∷ ys) + x.1 * f x.0) [
        | true ↦ λ h. (let e : f y.0 ≡ f x.0 = respects y.0 x.0 h in let b = weight-cons f (y.0, y.1 + x.1) ys in let d : x.1 * f y.0 ≡ x.1 * f x.0 = ap (λ n. x.1 * n) e in omega arith)
        | false ↦ λ h. (let b = weight-cons f y (with_count same ys x) in let i = weight-with_count ys x in omega arith)
      ] refl

  pub weight-with_counts : (xs ys : List (X × ℕ)) → weight f (with_counts same ys xs) ≡ weight f ys + weight f xs
  weight-with_counts [] ys = omega arith
  weight-with_counts (x ∷ xs) ys = let a = weight-with_counts xs (with_count same ys x) in let b = weight-with_count ys x in let d = weight-cons f x xs in omega arith

module _ {X Y : Type 0} (f : Y → ℕ) (next : X → List Y) where
  weight-each_times : (n : ℕ) (xs : List Y) → weight f (each_times n xs) ≡ n * sum_by f xs
  weight-each_times n [] = omega arith
  weight-each_times n (x ∷ xs) = let a = weight-cons f (x, n) (each_times n xs) in let b = weight-each_times n xs in let d = sum_by-cons f x xs in let e : n * sum_by f (x ∷ xs) ≡ n * (f x + sum_by f xs) = ap (λ k. n * k) d in omega arith

  pub weight-followers : (es : List (X × ℕ)) → weight f (flat_map (λ e. each_times e.1 (next e.0)) es) ≡ weight (λ x. sum_by f (next x)) es
  weight-followers [] = refl
  weight-followers (e ∷ es) =
      let g = λ (e : X × ℕ). each_times e.1 (next e.0) in
      let a : weight f (flat_map g (e ∷ es)) ≡ weight f (each_times e.1 (next e.0) ++ flat_map g es) = ap (weight f) (flat_map-cons g e es) in
      let b : weight f (each_times e.1 (next e.0) ++ flat_map g es) ≡ weight f (each_times e.1 (next e.0)) + weight f (flat_map g es) = sum_by-append (λ y. y.1 * f y.0) (each_times e.1 (next e.0)) (flat_map g es) in
      let d = weight-each_times e.1 (next e.0) in
      let i = weight-followers es in
      let k = weight-cons (λ x. sum_by f (next x)) e es in
      omega arith

  pub sum_by-followers : (xs : List X) → sum_by f (flat_map next xs) ≡ sum_by (λ x. sum_by f (next x)) xs
  sum_by-followers [] = refl
  sum_by-followers (x ∷ xs) =
      let a : sum_by f (flat_map next (x ∷ xs)) ≡ sum_by f (next x ++ flat_map next xs) = ap (sum_by f) (flat_map-cons next x xs) in
      let b = sum_by-append f (next x) (flat_map next xs) in
      let i = sum_by-followers xs in
      let k = sum_by-cons (λ x. sum_by f (next x)) x xs in
      omega arith

-- followers that are counted by their kinds
pub weight-counted_followers : {X Y : Type 0} (same : Y → Y → Bool) (f : Y → ℕ) (next : X → List Y) (xs : List (X × ℕ)) → ((x y : Y) → same x y ≡ true → f x ≡ f y) →
    weight f (with_counts same [] (flat_map (λ e. each_times e.1 (next e.0)) xs)) ≡ weight (λ x. sum_by f (next x)) xs
weight-counted_followers same f next xs respects =
    let a = weight-with_counts same f respects (flat_map (λ e. each_times e.1 (next e.0)) xs) [] in
    let b = weight-followers f next xs in
    omega arith

-- ---- counts up to a greatest one

abbrev pub up_to : {X : Type 0} → ℕ → X × ℕ → X × ℕ
up_to most x = (x.0, min x.1 most)

abbrev pub key_of : {X : Type 0} → X × ℕ → X
key_of x = x.0

module _ {X : Type 0} (most : ℕ) (same : X → X → Bool) where
  sum_up_to : (a b : ℕ) → min (min a most + min b most) most ≡ min (a + b) most
  sum_up_to a b = omega arith

  one_up_to : (ys : List (X × ℕ)) (x : X × ℕ) → map (up_to most) (with_count same ys x) ≡ with_count_up_to most same (map (up_to most) ys) (up_to most x)
  one_up_to [] x = refl
  one_up_to (y ∷ ys) x =
      elim (same y.0 x.0) as (λ b. map (up_to most) (cond b ((y.0, y.1 + x.1) ∷ ys) (y ∷ with_count same ys x)) ≡ cond b ((y.0, min (min y.1 most + min x.1 most) most) ∷ map (up_to most) ys) (up_to most y ∷ with_count_up_to most same (map (up_to most) ys) (up_to most x))) [
        | true ↦ ap (λ n. (y.0, n) ∷ map (up_to most) ys) (sym (sum_up_to y.1 x.1))
        | false ↦ ap (λ l. up_to most y ∷ l) (one_up_to ys x)
      ]

  pub all_up_to : (xs ys : List (X × ℕ)) → map (up_to most) (with_counts same ys xs) ≡ with_counts_up_to most same (map (up_to most) ys) (map (up_to most) xs)
  all_up_to [] ys = refl
  all_up_to (x ∷ xs) ys = all_up_to xs (with_count same ys x) ∙ ap (λ l. with_counts_up_to most same l (map (up_to most) xs)) (one_up_to ys x)

  pub counts_up_to-append : (us vs ys : List (X × ℕ)) → with_counts_up_to most same ys (us ++ vs) ≡ with_counts_up_to most same (with_counts_up_to most same ys us) vs
  counts_up_to-append [] vs ys = refl
  counts_up_to-append (u ∷ us) vs ys = counts_up_to-append us vs (with_count_up_to most same ys u)

-- without their counts they are the first of each kind
module _ {X : Type 0} (same : X → X → Bool) where
  cons_cond : (b : Bool) (y : X) (us vs : List X) → y ∷ cond b us vs ≡ cond b (y ∷ us) (y ∷ vs)
  cons_cond true y us vs = refl
  cons_cond false y us vs = refl

  keys_one : (ys : List (X × ℕ)) (x : X × ℕ) → map key_of (with_count same ys x) ≡ with_first same (map key_of ys) x.0
  keys_one [] x = refl
  keys_one (y ∷ ys) x =
      elim (same y.0 x.0) as (λ b. map key_of (cond b ((y.0, y.1 + x.1) ∷ ys) (y ∷ with_count same ys x)) ≡ cond (b || list_any (λ z. same z x.0) (map key_of ys)) (y.0 ∷ map key_of ys) (y.0 ∷ (map key_of ys ++ x.0 ∷ []))) [
        | true ↦ refl
        | false ↦ ap (λ l. y.0 ∷ l) (keys_one ys x) ∙ cons_cond (list_any (λ z. same z x.0) (map key_of ys)) y.0 (map key_of ys) (map key_of ys ++ x.0 ∷ [])
      ]

  pub keys_all : (xs ys : List (X × ℕ)) → map key_of (with_counts same ys xs) ≡ with_firsts same (map key_of ys) (map key_of xs)
  keys_all [] ys = refl
  keys_all (x ∷ xs) ys = keys_all xs (with_count same ys x) ∙ ap (λ l. with_firsts same l (map key_of xs)) (keys_one ys x)

module _ {X Y : Type 0} (next : X → List Y) where
  keys_times : (n : ℕ) (ys : List Y) → map key_of (each_times n ys) ≡ ys
  keys_times n [] = refl
  keys_times n (y ∷ ys) = ap (λ l. y ∷ l) (keys_times n ys)

  pub keys_followers : (es : List (X × ℕ)) → map key_of (flat_map (λ (e : X × ℕ). each_times e.1 (next e.0)) es) ≡ flat_map next (map key_of es)
  keys_followers [] = refl
  keys_followers (e ∷ es) =
      let g = λ (e : X × ℕ). each_times e.1 (next e.0) in
      ap (map key_of) (flat_map-cons g e es) ∙ map-append key_of (each_times e.1 (next e.0)) (flat_map g es)
      ∙ ap (λ l. l ++ map key_of (flat_map g es)) (keys_times e.1 (next e.0)) ∙ ap (λ l. next e.0 ++ l) (keys_followers es)
      ∙ sym (flat_map-cons next e.0 (map key_of es))

  times_up_to : (most n : ℕ) (ys : List Y) → map (up_to most) (each_times n ys) ≡ each_times (min n most) ys
  times_up_to most n [] = refl
  times_up_to most n (y ∷ ys) = ap (λ l. (y, min n most) ∷ l) (times_up_to most n ys)

  pub followers_up_to : (most : ℕ) (es : List (X × ℕ)) → map (up_to most) (flat_map (λ (e : X × ℕ). each_times e.1 (next e.0)) es) ≡ flat_map (λ (e : X × ℕ). each_times e.1 (next e.0)) (map (up_to most) es)
  followers_up_to most [] = refl
  followers_up_to most (e ∷ es) =
      let g = λ (e : X × ℕ). each_times e.1 (next e.0) in
      ap (map (up_to most)) (flat_map-cons g e es) ∙ map-append (up_to most) (each_times e.1 (next e.0)) (flat_map g es)
      ∙ ap (λ l. l ++ map (up_to most) (flat_map g es)) (times_up_to most e.1 (next e.0)) ∙ ap (λ l. each_times (min e.1 most) (next e.0) ++ l) (followers_up_to most es)
      ∙ sym (flat_map-cons g (up_to most e) (map (up_to most) es))

  pub flat_map_keys : (es : List (X × ℕ)) → flat_map (λ (e : X × ℕ). next e.0) es ≡ flat_map next (map key_of es)
  flat_map_keys [] = refl
  flat_map_keys (e ∷ es) =
      flat_map-cons (λ (e : X × ℕ). next e.0) e es ∙ ap (λ l. next e.0 ++ l) (flat_map_keys es) ∙ sym (flat_map-cons next e.0 (map key_of es))
