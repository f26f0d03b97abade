-- Uses by rising keys: those of one key are found by halving, and stay in their order; and a use that says more than another has one
-- of two keys.
use Rattle.std.proofs.Common.{◌≡◌, ℕ, suc, ◌+◌, ◌<◌, ◌≤◌, refl, sym, ap, subst, ◌∙◌, arith, ◌⊎◌, inl, inr, Bool, true, false, cond, not, ◌==◌, ◌&&◌, ◌||◌, List, [], ◌∷◌, ◌++◌, length, take, drop, get_or, filter, nat_lt, nat_le}
use Rattle.std.specs.List.{All, list_any}
use Rattle.std.specs.List.Sorted.{IsPartitionPoint, IsStableByKey}
use Rattle.std.specs.Cmp.{nat_cmp_is}
use Rattle.std.specs.Ordering.{nat_cmp, is_lt}
use Rattle.std.specs.declared.cmp.Ordering.TheVariants.{Less, Equal, Greater}
use Rattle.std.proofs.lemmas.Bool.{eqb-true, eq-eqb, ne_eqb, ltb-true, ltb-false, leb-true, leb-false}
use Rattle.std.proofs.lemmas.List.{append-nil, take_more, take-append-drop, length-take, length-drop, get_or-take, get_or-drop}
use Rattle.std.proofs.lemmas.List.Elements.{filter-append}
use Rattle.cap_core.specs.declared.profile.ProfileName.{ProfileName}
use Rattle.kernel_delete.proofs.Members.{both_true, either_true, true_left, true_right, any_of, any_in, in_filter, filter_in, same_truth}
use Rattle.query_parts.specs.declared.listed.PartMemory.{PartMemory}
use Rattle.query_parts.specs.declared.listed.PartUse.{PartUse}
use Rattle.query_parts.specs.declared.keyed.UseKey.{UseKey}
use Rattle.query_parts.specs.declared.keyed.UseKey.TheVariants as keys
use Rattle.query_parts.specs.Keyed.{key, key_of, has_key}
use Rattle.query_parts.specs.Order.{owns_endpoint, covers, says_more, is_needed}

filter_all : {X : Type 0} (p : X → Bool) (xs : List X) → All (λ (x : X). p x ≡ true) xs → filter p xs ≡ xs
filter_all p [] h = refl
filter_all p (x ∷ xs) h =
    ap (λ (b : Bool). cond b (x ∷ filter p xs) (filter p xs)) (h 0 x (omega arith))
    ∙ ap (λ (l : List _). x ∷ l) (filter_all p xs (λ k d lt. h (suc k) d (omega arith)))

filter_none : {X : Type 0} (p : X → Bool) (xs : List X) → All (λ (x : X). p x ≡ false) xs → filter p xs ≡ []
filter_none p [] h = refl
filter_none p (x ∷ xs) h =
    ap (λ (b : Bool). cond b (x ∷ filter p xs) (filter p xs)) (h 0 x (omega arith))
    ∙ filter_none p xs (λ k d lt. h (suc k) d (omega arith))

-- ---- a stable sort

tie_less : (a b : ℕ) → a < b → (not (is_lt (nat_cmp a b)) && not (is_lt (nat_cmp b a))) ≡ (b == a)
tie_less a b h =
    (λ i. not (is_lt ((sym (nat_cmp_is a b Less h)) i)) && not (is_lt (nat_cmp b a))) ∙ sym (ne_eqb b a (λ e. omega arith))

tie_same : (a b : ℕ) → a ≡ b → (not (is_lt (nat_cmp a b)) && not (is_lt (nat_cmp b a))) ≡ (b == a)
tie_same a b h =
    (λ i. not (is_lt ((sym (nat_cmp_is a b Equal h)) i)) && not (is_lt ((sym (nat_cmp_is b a Equal (sym h))) i))) ∙ sym (eq-eqb b a (sym h))

tie_more : (a b : ℕ) → b < a → (not (is_lt (nat_cmp a b)) && not (is_lt (nat_cmp b a))) ≡ (b == a)
tie_more a b h =
    (λ i. not (is_lt ((sym (nat_cmp_is a b Greater h)) i)) && not (is_lt ((sym (nat_cmp_is b a Less h)) i))) ∙ sym (ne_eqb b a (λ e. omega arith))

tie : (a b : ℕ) → (not (is_lt (nat_cmp a b)) && not (is_lt (nat_cmp b a))) ≡ (b == a)
tie a b = elim (nat_lt a b) as (λ c. nat_lt a b ≡ c → (not (is_lt (nat_cmp a b)) && not (is_lt (nat_cmp b a))) ≡ (b == a)) [
  | true ↦ λ e. tie_less a b (ltb-true a b e)
  | false ↦ λ e. elim (nat_lt b a) as (λ c. nat_lt b a ≡ c → (not (is_lt (nat_cmp a b)) && not (is_lt (nat_cmp b a))) ≡ (b == a)) [
    | true ↦ λ f. tie_more a b (ltb-true b a f)
    | false ↦ λ f. tie_same a b (let le = ltb-false a b e in let ge = ltb-false b a f in omega arith)
  ] refl
] refl

-- a use with a key
abbrev with_key : UseKey → ℕ → PartUse
with_key keys.Endpoint n = record { part = 0; endpoint = n; badge = record { 0 = 0 }; rights = record { 0 = 0 } }
with_key keys.EndpointAndBadge n = record { part = 0; endpoint = 0; badge = record { 0 = n }; rights = record { 0 = 0 } }

has_that_key : (by : UseKey) (n : ℕ) → key_of by (with_key by n) ≡ n
has_that_key keys.Endpoint n = refl
has_that_key keys.EndpointAndBadge n = omega arith

pub same_at : (by : UseKey) (n : ℕ) (xs ys : List PartUse) → IsStableByKey (key_of by) nat_cmp xs ys → filter (has_key by n) ys ≡ filter (has_key by n) xs
same_at by n xs ys stable =
    subst (λ k. filter (has_key by k) ys ≡ filter (has_key by k) xs) (has_that_key by n)
    ((λ i. filter (λ (y : PartUse). (sym (tie (key_of by (with_key by n)) (key_of by y))) i) ys)
    ∙ (stable (with_key by n) ∙ (λ i. filter (λ (y : PartUse). (tie (key_of by (with_key by n)) (key_of by y)) i) xs)))

-- ---- by halving

less_at : (e n : ℕ) → nat_lt n e ≡ true → (n == e) ≡ false
less_at e n h = ne_eqb n e (λ eq. let l = ltb-true n e h in omega arith)

more_at : (e n : ℕ) → nat_le n e ≡ false → (n == e) ≡ false
more_at e n h = ne_eqb n e (λ eq. let l = leb-false n e h in omega arith)

exact_at : (e n : ℕ) → nat_lt n e ≡ false → nat_le n e ≡ true → (n == e) ≡ true
exact_at e n h k = eq-eqb n e (let l = ltb-false n e h in let m = leb-true n e k in omega arith)

pub between : (by : UseKey) (e : ℕ) (xs : List PartUse) (i j : ℕ) → i ≤ length xs →
    IsPartitionPoint (λ (y : PartUse). nat_lt (key_of by y) e ≡ true) (λ (y : PartUse). nat_lt (key_of by y) e ≡ false) xs i →
    IsPartitionPoint (λ (y : PartUse). nat_le (key_of by y) e ≡ true) (λ (y : PartUse). nat_le (key_of by y) e ≡ false) (drop i xs) j →
    take j (drop i xs) ≡ filter (has_key by e) xs
between by e xs i j in' low high =
    sym (ap (filter (has_key by e)) (sym (take-append-drop i xs))
    ∙ (filter-append (has_key by e) (take i xs) rest
    ∙ (ap (λ (l : List PartUse). l ++ filter (has_key by e) rest) (filter_none (has_key by e) (take i xs) front)
    ∙ (ap (filter (has_key by e)) (sym (take-append-drop j rest))
    ∙ (filter-append (has_key by e) (take j rest) (drop j rest)
    ∙ ((λ k. (filter_all (has_key by e) (take j rest) middle) k ++ (filter_none (has_key by e) (drop j rest) back) k)
    ∙ append-nil (take j rest)))))))
  where
    rest : List PartUse
    rest = drop i xs

    front : All (λ (y : PartUse). has_key by e y ≡ false) (take i xs)
    front k d lt =
        let short = length-take i xs in
        ap (has_key by e) (get_or-take i xs k d (omega arith)) ∙ less_at e (key_of by (get_or xs k d)) (low.0 k d (omega arith) (omega arith))

    middle : All (λ (y : PartUse). has_key by e y ≡ true) (take j rest)
    middle k d lt =
        let short = length-take j rest in
        let long = length-drop i xs in
        let at = ap (λ (y : PartUse). nat_le (key_of by y) e) (get_or-drop i xs k d) in
        ap (has_key by e) (get_or-take j rest k d (omega arith) ∙ get_or-drop i xs k d)
        ∙ exact_at e (key_of by (get_or xs (i + k) d)) (low.1 (i + k) d (omega arith) (omega arith)) (sym at ∙ high.0 k d (omega arith) (omega arith))

    back : All (λ (y : PartUse). has_key by e y ≡ false) (drop j rest)
    back k d lt =
        let long = length-drop j rest in
        ap (has_key by e) (get_or-drop j rest k d) ∙ more_at e (key_of by (get_or rest (j + k) d)) (high.1 (j + k) d (omega arith) (omega arith))

-- ---- uses that say more

module _ (u : PartUse) where
  abbrev any_key : ℕ
  any_key = key keys.EndpointAndBadge u.endpoint 0

  abbrev same_key : ℕ
  same_key = key keys.EndpointAndBadge u.endpoint u.badge.0

  keyed : (w : PartUse) → says_more u w ≡ true → (has_key keys.EndpointAndBadge any_key w ≡ true) ⊎ (has_key keys.EndpointAndBadge same_key w ≡ true)
  keyed w more =
      let covering = both_true (covers w u) _ more in
      let at = both_true (w.part == u.part) _ covering.0 in
      let on = both_true (w.endpoint == u.endpoint) _ at.1 in
      let fits = both_true (w.badge.0 == u.badge.0 || w.badge.0 == 0) _ on.1 in
      let same = eqb-true w.endpoint u.endpoint on.0 in
      elim (either_true (w.badge.0 == u.badge.0) _ fits.0) [
        | inl this ↦ inr (eq-eqb _ _ (ap (λ n. key keys.EndpointAndBadge n w.badge.0) same ∙ ap (key keys.EndpointAndBadge u.endpoint) (eqb-true w.badge.0 u.badge.0 this)))
        | inr any ↦ inl (eq-eqb _ _ (ap (λ n. key keys.EndpointAndBadge n w.badge.0) same ∙ ap (key keys.EndpointAndBadge u.endpoint) (eqb-true w.badge.0 0 any)))
      ]

  -- of uses, those of two keys alone may say more
  pub more_by_key : (l : List PartUse) → list_any (says_more u) l
      ≡ (list_any (says_more u) (filter (has_key keys.EndpointAndBadge any_key) l) || list_any (says_more u) (filter (has_key keys.EndpointAndBadge same_key) l))
  more_by_key l = same_truth _ _ forth back
    where
      forth : list_any (says_more u) l ≡ true →
          (list_any (says_more u) (filter (has_key keys.EndpointAndBadge any_key) l) || list_any (says_more u) (filter (has_key keys.EndpointAndBadge same_key) l)) ≡ true
      forth h =
          let w = any_of (says_more u) l h in
          elim (keyed w.0 w.1.1) [
            | inl any ↦ true_left _ _ (any_in (says_more u) _ w.0 (filter_in (has_key keys.EndpointAndBadge any_key) l w.0 w.1.0 any) w.1.1)
            | inr this ↦ true_right _ _ (any_in (says_more u) _ w.0 (filter_in (has_key keys.EndpointAndBadge same_key) l w.0 w.1.0 this) w.1.1)
          ]

      of_key : (n : ℕ) → list_any (says_more u) (filter (has_key keys.EndpointAndBadge n) l) ≡ true → list_any (says_more u) l ≡ true
      of_key n h =
          let w = any_of (says_more u) _ h in
          any_in (says_more u) l w.0 (in_filter (has_key keys.EndpointAndBadge n) l w.0 w.1.0).0 w.1.1

      back : (list_any (says_more u) (filter (has_key keys.EndpointAndBadge any_key) l) || list_any (says_more u) (filter (has_key keys.EndpointAndBadge same_key) l)) ≡ true →
          list_any (says_more u) l ≡ true
      back h = elim (either_true (list_any (says_more u) (filter (has_key keys.EndpointAndBadge any_key) l)) _ h) [
        | inl any ↦ of_key any_key any
        | inr this ↦ of_key same_key this
      ]

  -- so it is the same of two lists that have the same uses of each key
  pub more_of_same : (l k : List PartUse) → ((n : ℕ) → filter (has_key keys.EndpointAndBadge n) l ≡ filter (has_key keys.EndpointAndBadge n) k) →
      list_any (says_more u) l ≡ list_any (says_more u) k
  more_of_same l k same =
      more_by_key l
      ∙ ap (λ (r : List PartUse). list_any (says_more u) r || list_any (says_more u) (filter (has_key keys.EndpointAndBadge same_key) l)) (same any_key)
      ∙ ap (λ (r : List PartUse). list_any (says_more u) (filter (has_key keys.EndpointAndBadge any_key) k) || list_any (says_more u) r) (same same_key)
      ∙ sym (more_by_key k)

  -- the same by what was found of the two keys
  pub more_found : (l any this : List PartUse) (m n : ℕ) → any ≡ filter (has_key keys.EndpointAndBadge m) l → m ≡ any_key →
      this ≡ filter (has_key keys.EndpointAndBadge n) l → n ≡ same_key →
      list_any (says_more u) l ≡ (list_any (says_more u) any || list_any (says_more u) this)
  more_found l any this m n any_is m_is this_is n_is =
      more_by_key l
      ∙ ap (λ (r : List PartUse). list_any (says_more u) r || list_any (says_more u) (filter (has_key keys.EndpointAndBadge same_key) l))
      (sym (any_is ∙ ap (λ k. filter (has_key keys.EndpointAndBadge k) l) m_is))
      ∙ ap (λ (r : List PartUse). list_any (says_more u) any || list_any (says_more u) r) (sym (this_is ∙ ap (λ k. filter (has_key keys.EndpointAndBadge k) l) n_is))

-- ---- those that are needed, one more

module _ (p : ProfileName) (memory : List PartMemory) (uses list slice : List PartUse)
    (same : (n : ℕ) → filter (has_key keys.EndpointAndBadge n) list ≡ filter (has_key keys.EndpointAndBadge n) uses) (is : slice ≡ list)
    (i : ℕ) (d : PartUse) (low : i < length uses) (b : Bool) (asked : b ≡ is_needed p memory slice (get_or uses i d)) where
  answer : b ≡ is_needed p memory uses (get_or uses i d)
  answer =
      asked ∙ ap (λ (l : List PartUse). is_needed p memory l (get_or uses i d)) is
      ∙ ap (λ c. not (owns_endpoint p memory (get_or uses i d).part (get_or uses i d).endpoint) && not c) (more_of_same (get_or uses i d) list uses same)

  next_is : filter (is_needed p memory uses) (take i uses) ++ cond b (get_or uses i d ∷ []) [] ≡ filter (is_needed p memory uses) (take (i + 1) uses)
  next_is =
      ap (λ c. filter (is_needed p memory uses) (take i uses) ++ cond c (get_or uses i d ∷ []) []) answer
      ∙ sym (filter-append (is_needed p memory uses) (take i uses) (get_or uses i d ∷ []))
      ∙ ap (filter (is_needed p memory uses)) (sym (take_more uses i d low))

  pub then_kept : (before : List PartUse) → before ≡ filter (is_needed p memory uses) (take i uses) → b ≡ true →
      before ++ get_or uses i d ∷ [] ≡ filter (is_needed p memory uses) (take (i + 1) uses)
  then_kept before so right =
      ap (λ (l : List PartUse). l ++ get_or uses i d ∷ []) so
      ∙ ap (λ c. filter (is_needed p memory uses) (take i uses) ++ cond c (get_or uses i d ∷ []) []) (sym right) ∙ next_is

  pub else_kept : (before : List PartUse) → before ≡ filter (is_needed p memory uses) (take i uses) → b ≡ false →
      before ≡ filter (is_needed p memory uses) (take (i + 1) uses)
  else_kept before so wrong =
      so ∙ sym (append-nil (filter (is_needed p memory uses) (take i uses)))
      ∙ ap (λ c. filter (is_needed p memory uses) (take i uses) ++ cond c (get_or uses i d ∷ []) []) (sym wrong) ∙ next_is
