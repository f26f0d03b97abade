-- Of what comes of a list, the first of each kind come of the first of each kind in it.
use Rattle.std.proofs.Common.{◌≡◌, ◌⊎◌, Bool, true, false, cond, List, [], ◌∷◌, ◌++◌, ◌||◌, map, find, Some, refl, ap, sym, subst, ◌∙◌, append_assoc, inl, inr}
use Rattle.std.proofs.lemmas.List.{append-nil}
use Rattle.std.proofs.lemmas.List.Folds.{list_any-append}
use Rattle.std.proofs.lemmas.List.Concat.{flat_map-cons}
use Rattle.std.proofs.lemmas.Grind.{flat_map-append}
use Rattle.std.specs.List.{list_any, flat_map, AllByRecursion as Each}
use Rattle.kernel_lists.specs.Firsts.{has_kind_of, with_first, with_firsts, firsts, HasKinds, IsKindTest, KeepsKinds}

or_left : (s t : Bool) → s ≡ true → (s || t) ≡ true
or_left true t h = refl
or_left false t h = cc

or_right : (s t : Bool) → t ≡ true → (s || t) ≡ true
or_right true t h = refl
or_right false t h = h

or_cases : (s t : Bool) → (s || t) ≡ true → (s ≡ true) ⊎ (t ≡ true)
or_cases true t h = inl refl
or_cases false t h = inr h

pub each_parts : {X : Type 0} (P : X → Type 0) (us vs : List X) → Each P (us ++ vs) → Each P us × Each P vs
each_parts P [] vs h = (tt, h)
each_parts P (u ∷ us) vs h = let r = each_parts P us vs h.1 in ((h.0, r.0), r.1)

pub each_append : {X : Type 0} (P : X → Type 0) (us vs : List X) → Each P us → Each P vs → Each P (us ++ vs)
each_append P [] vs h k = k
each_append P (u ∷ us) vs h k = (h.0, each_append P us vs h.1 k)

module _ {X : Type 0} (same : X → X → Bool) where
  -- more elements know no less
  pub has_kind_of-front : (ys zs : List X) (x : X) → has_kind_of same ys x ≡ true → has_kind_of same (ys ++ zs) x ≡ true
  has_kind_of-front ys zs x h = list_any-append (λ y. same y x) ys zs ∙ or_left (has_kind_of same ys x) (has_kind_of same zs x) h

  pub has_kind_of-back : (ys zs : List X) (x : X) → has_kind_of same zs x ≡ true → has_kind_of same (ys ++ zs) x ≡ true
  has_kind_of-back ys zs x h = list_any-append (λ y. same y x) ys zs ∙ or_right (has_kind_of same ys x) (has_kind_of same zs x) h

  pub with_first-keeps : (ys : List X) (x z : X) → has_kind_of same ys z ≡ true → has_kind_of same (with_first same ys x) z ≡ true
  with_first-keeps ys x z h = elim (has_kind_of same ys x) as (λ b. has_kind_of same (cond b ys (ys ++ x ∷ [])) z ≡ true) [ true ↦ h | false ↦ has_kind_of-front ys (x ∷ []) z h ]

  pub with_firsts-keeps : (xs ys : List X) (z : X) → has_kind_of same ys z ≡ true → has_kind_of same (with_firsts same ys xs) z ≡ true
  with_firsts-keeps [] ys z h = h
  with_firsts-keeps (x ∷ xs) ys z h = with_firsts-keeps xs (with_first same ys x) z (with_first-keeps ys x z h)

  -- nothing new
  pub nothing_new : (us ys : List X) → HasKinds same ys us → with_firsts same ys us ≡ ys
  nothing_new [] ys h = refl
  nothing_new (u ∷ us) ys h = ap (λ b. with_firsts same (cond b ys (ys ++ u ∷ [])) us) h.0 ∙ nothing_new us ys h.1

  pub with_firsts-append : (us vs ys : List X) → with_firsts same ys (us ++ vs) ≡ with_firsts same (with_firsts same ys us) vs
  with_firsts-append [] vs ys = refl
  with_firsts-append (u ∷ us) vs ys = with_firsts-append us vs (with_first same ys u)

  module _ (laws : IsKindTest same) where
    with_first-has : (ys : List X) (x : X) → has_kind_of same (with_first same ys x) x ≡ true
    with_first-has ys x = elim (has_kind_of same ys x) as (λ b. has_kind_of same ys x ≡ b → has_kind_of same (cond b ys (ys ++ x ∷ [])) x ≡ true) [ true ↦ (λ h. h) | false ↦ (λ h. has_kind_of-back ys (x ∷ []) x (or_left (same x x) false (laws.itself x))) ] refl

    pub with_firsts-has : (xs ys : List X) → HasKinds same (with_firsts same ys xs) xs
    with_firsts-has [] ys = tt
    with_firsts-has (x ∷ xs) ys = (with_firsts-keeps xs (with_first same ys x) x (with_first-has ys x), with_firsts-has xs (with_first same ys x))

    pub through : (ys : List X) (v u : X) → has_kind_of same ys v ≡ true → same v u ≡ true → has_kind_of same ys u ≡ true
    through [] v u h k = h
    through (y ∷ ys) v u h k =
        elim (or_cases (same y v) (has_kind_of same ys v) h) as (λ _. has_kind_of same (y ∷ ys) u ≡ true) [
          | inl e ↦ or_left (same y u) (has_kind_of same ys u) (laws.along y v u e k)
          | inr e ↦ or_right (same y u) (has_kind_of same ys u) (through ys v u e k)
        ]

    through_list : (vs ys : List X) (u : X) → HasKinds same ys vs → has_kind_of same vs u ≡ true → has_kind_of same ys u ≡ true
    through_list [] ys u h k = cc
    through_list (v ∷ vs) ys u h k =
        elim (or_cases (same v u) (has_kind_of same vs u) k) as (λ _. has_kind_of same ys u ≡ true) [
          | inl e ↦ through ys v u h.0 e
          | inr e ↦ through_list vs ys u h.1 e
        ]

    through_all : (us vs ys : List X) → HasKinds same ys vs → HasKinds same vs us → HasKinds same ys us
    through_all [] vs ys h k = tt
    through_all (u ∷ us) vs ys h k = (through_list vs ys u h k.0, through_all us vs ys h k.1)

-- elements of X, and what follows from each: elements of Y
module _ {X Y : Type 0} (same : X → X → Bool) (alike : Y → Y → Bool) (laws : IsKindTest alike) (Fine : X → Type 0) (next : X → List Y) (respects : KeepsKinds same alike Fine next) where
  come : (zs : List X) (ys : List Y) (x : X) → HasKinds alike ys (flat_map next zs) → has_kind_of same zs x ≡ true → Each Fine zs → Fine x → HasKinds alike ys (next x)
  come [] ys x h k f g = cc
  come (z ∷ zs) ys x h k f g =
      let parts = each_parts (λ u. has_kind_of alike ys u ≡ true) (next z) (flat_map next zs) (subst (HasKinds alike ys) (flat_map-cons next z zs) h) in
      elim (or_cases (same z x) (has_kind_of same zs x) k) as (λ _. HasKinds alike ys (next x)) [
        | inl e ↦ through_all alike laws (next x) (next z) ys parts.0 (respects.each z x f.0 g e)
        | inr e ↦ come zs ys x parts.1 e f.1 g
      ]

  -- what follows from one more, of whose kind one may be known
  one_more : (ys : List Y) (zs : List X) (x : X) (b : Bool) → has_kind_of same zs x ≡ b → Each Fine zs → Fine x →
      with_firsts alike ys (flat_map next (cond b zs (zs ++ x ∷ []))) ≡ with_firsts alike (with_firsts alike ys (flat_map next zs)) (next x)
  one_more ys zs x true h f g = sym (nothing_new alike (next x) (with_firsts alike ys (flat_map next zs)) (come zs (with_firsts alike ys (flat_map next zs)) x (with_firsts-has alike laws (flat_map next zs) ys) h f g))
  one_more ys zs x false h f g =
      ap (with_firsts alike ys) (flat_map-append next zs (x ∷ []) ∙ ap (λ l. flat_map next zs ++ l) (flat_map-cons next x [] ∙ append-nil (next x)))
      ∙ with_firsts-append alike (flat_map next zs) (next x) ys

  with_first-fine : (zs : List X) (x : X) → Each Fine zs → Fine x → Each Fine (with_first same zs x)
  with_first-fine zs x f g = elim (has_kind_of same zs x) as (λ b. Each Fine (cond b zs (zs ++ x ∷ []))) [ true ↦ f | false ↦ each_append Fine zs (x ∷ []) f (g, tt) ]

  what_follows : (ys : List Y) (xs zs : List X) → Each Fine zs → Each Fine xs →
      with_firsts alike ys (flat_map next (with_firsts same zs xs)) ≡ with_firsts alike (with_firsts alike ys (flat_map next zs)) (flat_map next xs)
  what_follows ys [] zs f g = refl
  what_follows ys (x ∷ xs) zs f g =
      what_follows ys xs (with_first same zs x) (with_first-fine zs x f g.0) g.1
      ∙ ap (λ l. with_firsts alike l (flat_map next xs)) (one_more ys zs x (has_kind_of same zs x) refl f g.0)
      ∙ sym (with_firsts-append alike (next x) (flat_map next xs) (with_firsts alike ys (flat_map next zs)))
      ∙ ap (with_firsts alike (with_firsts alike ys (flat_map next zs))) (sym (flat_map-cons next x xs))

  -- of what follows from a list, the first of each kind follow from the first of each kind in it
  pub firsts_follow : (ys : List Y) (xs : List X) → Each Fine xs → with_firsts alike ys (flat_map next (firsts same xs)) ≡ with_firsts alike ys (flat_map next xs)
  firsts_follow ys xs g = what_follows ys xs [] tt g

-- functions whose values are the same, over a list
weaken : {X : Type 0} (same : X → X → Bool) (y : X) (ys us : List X) → HasKinds same ys us → HasKinds same (y ∷ ys) us
weaken same y ys [] h = tt
weaken same y ys (u ∷ us) h = (or_right (same y u) (has_kind_of same ys u) h.0, weaken same y ys us h.1)

pub has_kinds-map : {X Y : Type 0} (same : X → X → Bool) (f g : Y → X) → ((y : Y) → same (f y) (g y) ≡ true) → (ys : List Y) → HasKinds same (map f ys) (map g ys)
has_kinds-map same f g h [] = tt
has_kinds-map same f g h (y ∷ ys) =
    (or_left (same (f y) (g y)) (has_kind_of same (map f ys) (g y)) (h y), weaken same (f y) (map f ys) (map g ys) (has_kinds-map same f g h ys))

-- ---- what tests that respect the kinds find is found in the first of each kind

find-had : {X : Type 0} (t : X → Bool) (ys zs : List X) → list_any t ys ≡ true → find t (ys ++ zs) ≡ find t ys
find-had t [] zs h = cc
find-had t (y ∷ ys) zs h = elim (t y) as (λ b. t y ≡ b → cond b (Some y) (find t (ys ++ zs)) ≡ cond b (Some y) (find t ys)) [ true ↦ (λ e. refl) | false ↦ (λ e. find-had t ys zs (subst (λ b. (b || list_any t ys) ≡ true) e h)) ] refl

find-passes_by : {X : Type 0} (t : X → Bool) (x : X) → t x ≡ false → (ys zs : List X) → find t (ys ++ x ∷ zs) ≡ find t (ys ++ zs)
find-passes_by t x h [] zs = ap (λ b. cond b (Some x) (find t zs)) h
find-passes_by t x h (y ∷ ys) zs = ap (cond (t y) (Some y)) (find-passes_by t x h ys zs)

module _ {X : Type 0} (same : X → X → Bool) (Fine : X → Type 0) (t : X → Bool) (respects : (x y : X) → Fine x → Fine y → same x y ≡ true → t x ≡ t y) where
  passes-had : (ys : List X) (x : X) → Each Fine ys → Fine x → has_kind_of same ys x ≡ true → t x ≡ true → list_any t ys ≡ true
  passes-had [] x f g k h = k
  passes-had (y ∷ ys) x f g k h =
      elim (or_cases (same y x) (has_kind_of same ys x) k) as (λ _. (t y || list_any t ys) ≡ true) [
        | inl e ↦ or_left (t y) (list_any t ys) (respects y x f.0 g e ∙ h)
        | inr e ↦ or_right (t y) (list_any t ys) (passes-had ys x f.1 g e h)
      ]

  find_one : (ys : List X) (x : X) (xs : List X) (b c : Bool) → has_kind_of same ys x ≡ b → t x ≡ c → Each Fine ys → Fine x →
      find t (cond b ys (ys ++ x ∷ []) ++ xs) ≡ find t (ys ++ x ∷ xs)
  find_one ys x xs true true k h f g = let a = passes-had ys x f g k h in find-had t ys xs a ∙ sym (find-had t ys (x ∷ xs) a)
  find_one ys x xs true false k h f g = sym (find-passes_by t x h ys xs)
  find_one ys x xs false c k h f g = ap (find t) (append_assoc ys (x ∷ []) xs)

  fine_with_first : (zs : List X) (x : X) → Each Fine zs → Fine x → Each Fine (with_first same zs x)
  fine_with_first zs x f g = elim (has_kind_of same zs x) as (λ b. Each Fine (cond b zs (zs ++ x ∷ []))) [ true ↦ f | false ↦ each_append Fine zs (x ∷ []) f (g, tt) ]

  find-with_firsts : (xs ys : List X) → Each Fine ys → Each Fine xs → find t (with_firsts same ys xs) ≡ find t (ys ++ xs)
  find-with_firsts [] ys f g = ap (find t) (sym (append-nil ys))
  find-with_firsts (x ∷ xs) ys f g = find-with_firsts xs (with_first same ys x) (fine_with_first ys x f g.0) g.1 ∙ find_one ys x xs (has_kind_of same ys x) (t x) refl refl f g.0

  pub find-firsts : (xs : List X) → Each Fine xs → find t (firsts same xs) ≡ find t xs
  find-firsts xs g = find-with_firsts xs [] tt g
