-- The uses of a part that only passes messages: none is lost, and those that a sort leaves, each once, are these.
use Rattle.std.proofs.Common.{◌≡◌, ℕ, Bool, true, false, cond, ◌==◌, ◌&&◌, ◌||◌, nat_lt, List, [], ◌∷◌, ◌++◌, filter, get_or, refl, sym, ap, subst, ◌∙◌, inl, inr, ◌⊎◌, arith}
use Rattle.std.specs.Cmp.{IsTotalOrder, nat_cmp_total, on_total, then_total}
use Rattle.std.specs.List.{list_any, dedup, All, Contains}
use Rattle.std.specs.List.Sorted.{IsPermutation, IsSorted, IsStrictlySortedBy}
use Rattle.std.specs.Ordering.{eq_by_cmp, is_eq, is_lt, nat_cmp, ordering_reverse, ordering_then}
use Rattle.std.specs.declared.cmp.Ordering.{Ordering}
use Rattle.std.specs.declared.cmp.Ordering.TheVariants.{Less, Equal, Greater}
use Rattle.std.proofs.lemmas.Bool.{false≢true}
use Rattle.std.proofs.lemmas.Bool.Decides.{nat_tests}
use Rattle.std.proofs.lemmas.Cmp.{eq_by_cmp_equiv}
use Rattle.std.proofs.lemmas.List.Elements.{All-append, All-cons, All-from_recursion, All-head, All-tail, filter_passes, recursion_from_All}
use Rattle.std.proofs.lemmas.List.Folds.{list_any-append}
use Rattle.std.proofs.lemmas.List.Kept.{Contains-dedup, Contains-from_dedup, IsStrictlySortedBy-dedup, IsStrictlySortedBy-filter}
use Rattle.std.proofs.lemmas.List.Sorted.{Contains-permutation, IsPermutation-sym}
use Rattle.std.proofs.lemmas.Map.Lookups.{btree_set_from_contains}
use Rattle.std.proofs.lemmas.Map.Views.{tells_apart}
use Rattle.kernel_delete.specs.Members.{In}
use Rattle.kernel_delete.proofs.Clearable.{contains_in, in_contains}
use Rattle.kernel_delete.proofs.Members.{true_left, true_right, any_in, any_of, filter_in, in_append, in_filter, same_truth, tells, eqb_self}
use Rattle.query_parts.specs.declared.listed.PartUse.{PartUse}
use Rattle.query_parts.specs.Order.{comes_before}
use Rattle.query_parts.proofs.Needed.{use_order}
use Rattle.command_parts.specs.Messages.{with_use, rising_uses}

same_number : (a b : ℕ) → nat_lt a b ≡ false → nat_lt b a ≡ false → a ≡ b
same_number a b h k = grind (arith, nat_tests)

-- by numbers, and then by more
level : (a b : ℕ) (x y : Bool) → (nat_lt a b || (a == b && x)) ≡ false → (nat_lt b a || (b == a && y)) ≡ false → (a ≡ b) × ((x ≡ false) × (y ≡ false))
level a b x y h k = by (nat_lt a b) (nat_lt b a) refl refl h k
  where
    equal : a ≡ b → (a == b && x) ≡ false → (b == a && y) ≡ false → (a ≡ b) × ((x ≡ false) × (y ≡ false))
    equal e f g =
        (e, (sym (ap (λ c. c && x) (ap (λ n. a == n) (sym e) ∙ eqb_self a)) ∙ f, sym (ap (λ c. c && y) (ap (λ n. b == n) e ∙ eqb_self b)) ∙ g))

    by : (c d : Bool) → nat_lt a b ≡ c → nat_lt b a ≡ d → (c || (a == b && x)) ≡ false → (d || (b == a && y)) ≡ false → (a ≡ b) × ((x ≡ false) × (y ≡ false))
    by true d p q f g = absurd (false≢true (sym f))
    by false true p q f g = absurd (false≢true (sym g))
    by false false p q f g = equal (same_number a b p q) f g

same_use : (u w : PartUse) → comes_before u w ≡ false → comes_before w u ≡ false → u ≡ w
same_use u w h k =
    let parts = level u.part w.part _ _ h k in
    let endpoints = level u.endpoint w.endpoint _ _ parts.1.0 parts.1.1 in
    let badges = level u.badge.0 w.badge.0 _ _ endpoints.1.0 endpoints.1.1 in
    let rights = same_number u.rights.0 w.rights.0 badges.1.0 badges.1.1 in
    λ i. record { part = parts.0 i; endpoint = endpoints.0 i; badge = record { 0 = badges.0 i }; rights = record { 0 = rights i } }

module _ (test : PartUse → Bool) where
  -- what some use has, still has one with one use more
  kept : (u : PartUse) (l : List PartUse) → list_any test l ≡ true → list_any test (with_use u l) ≡ true
  kept u l h = let w = any_of test l h in by w.0 w.1.0 w.1.1 (tells (comes_before w.0 u)) (tells (comes_before u w.0))
    where
      front : list_any test (filter (λ x. comes_before x u) l) ≡ true → list_any test (with_use u l) ≡ true
      front h = list_any-append test (filter (λ x. comes_before x u) l) (u ∷ filter (comes_before u) l) ∙ true_left _ _ h

      back : list_any test (u ∷ filter (comes_before u) l) ≡ true → list_any test (with_use u l) ≡ true
      back h = list_any-append test (filter (λ x. comes_before x u) l) (u ∷ filter (comes_before u) l) ∙ true_right _ _ h

      by : (w : PartUse) → In w l → test w ≡ true → (comes_before w u ≡ true) ⊎ (comes_before w u ≡ false) → (comes_before u w ≡ true) ⊎ (comes_before u w ≡ false) →
          list_any test (with_use u l) ≡ true
      by w m t (inl before) other = front (any_in test (filter (λ x. comes_before x u) l) w (filter_in (λ x. comes_before x u) l w m before) t)
      by w m t (inr not_before) (inl behind) = back (true_right _ _ (any_in test (filter (comes_before u) l) w (filter_in (comes_before u) l w m behind) t))
      by w m t (inr not_before) (inr not_behind) = back (true_left _ _ (ap test (same_use u w not_behind not_before) ∙ t))

  put : (u : PartUse) (l : List PartUse) → test u ≡ true → list_any test (with_use u l) ≡ true
  put u l t = list_any-append test (filter (λ x. comes_before x u) l) (u ∷ filter (comes_before u) l) ∙ true_right _ _ (true_left _ _ t)

  still : (list more : List PartUse) → list_any test list ≡ true → list_any test (rising_uses list more) ≡ true
  still list [] h = h
  still list (u ∷ more) h = still (with_use u list) more (kept u list h)

  pub risen : (list more : List PartUse) (u : PartUse) → In u more → test u ≡ true → list_any test (rising_uses list more) ≡ true
  risen list [] u m t = absurd m
  risen list (w ∷ more) u (inl same) t = still (with_use w list) more (put w list (ap test (sym same) ∙ t))
  risen list (w ∷ more) u (inr m) t = risen (with_use w list) more u m t

-- ---- the order of the sort

then_before : (a b : ℕ) (r : Ordering) → is_lt (ordering_then (nat_cmp a b) r) ≡ (nat_lt a b || (a == b && is_lt r))
then_before a b r = by (nat_lt a b) (a == b)
  where
    by : (c d : Bool) → is_lt (ordering_then (cond c Less (cond d Equal Greater)) r) ≡ (c || (d && is_lt r))
    by true d = refl
    by false true = refl
    by false false = refl

cmp_before : (a b : ℕ) → is_lt (nat_cmp a b) ≡ nat_lt a b
cmp_before a b = by (nat_lt a b) (a == b)
  where
    by : (c d : Bool) → is_lt (cond c Less (cond d Equal Greater)) ≡ c
    by true d = refl
    by false true = refl
    by false false = refl

then_then : (o p q : Ordering) → ordering_then (ordering_then o p) q ≡ ordering_then o (ordering_then p q)
then_then Less p q = refl
then_then Equal p q = refl
then_then Greater p q = refl

less_before : (u w : PartUse) → is_lt (use_order u w) ≡ comes_before u w
less_before u w =
    let parts = nat_cmp u.part w.part in
    let endpoints = nat_cmp u.endpoint w.endpoint in
    let badges = nat_cmp u.badge.0 w.badge.0 in
    let rights = nat_cmp u.rights.0 w.rights.0 in
    ap is_lt (then_then (ordering_then parts endpoints) badges rights ∙ then_then parts endpoints (ordering_then badges rights))
    ∙ then_before u.part w.part (ordering_then endpoints (ordering_then badges rights))
    ∙ ap (λ b. nat_lt u.part w.part || (u.part == w.part && b)) (then_before u.endpoint w.endpoint (ordering_then badges rights)
    ∙ ap (λ b. nat_lt u.endpoint w.endpoint || (u.endpoint == w.endpoint && b)) (then_before u.badge.0 w.badge.0 rights
    ∙ ap (λ b. nat_lt u.badge.0 w.badge.0 || (u.badge.0 == w.badge.0 && b)) (cmp_before u.rights.0 w.rights.0)))

is_less : (o : Ordering) → is_lt o ≡ true → o ≡ Less
is_less Less h = refl
is_less Equal h = absurd (false≢true h)
is_less Greater h = absurd (false≢true h)

less : (u w : PartUse) → comes_before u w ≡ true → use_order u w ≡ Less
less u w h = is_less (use_order u w) (less_before u w ∙ h)

order_total : IsTotalOrder use_order
order_total =
    then_total (then_total (then_total (on_total (λ (u : PartUse). u.part) nat_cmp_total) (on_total (λ (u : PartUse). u.endpoint) nat_cmp_total))
    (on_total (λ (u : PartUse). u.badge.0) nat_cmp_total)) (on_total (λ (u : PartUse). u.rights.0) nat_cmp_total)

level_same : (u w : PartUse) → use_order u w ≡ Equal → u ≡ w
level_same u w h =
    same_use u w (sym (less_before u w) ∙ ap is_lt h) (sym (less_before w u) ∙ ap is_lt (order_total.antisymm w u ∙ ap ordering_reverse h))

-- ---- in their order

abbrev Rises : List PartUse → Type 0
Rises l = IsStrictlySortedBy use_order l

-- some uses, one behind all of them, and those behind that one
joined : (l more : List PartUse) (u : PartUse) → All (λ w. use_order w u ≡ Less) l → Rises l → Rises (u ∷ more) → Rises (l ++ u ∷ more)
unfolding IsStrictlySortedBy
joined [] more u before s t = t
joined (w ∷ l) more u before s t =
    let first = All-head (λ x. use_order x u ≡ Less) w l before in
    let far : All (λ x. use_order w x ≡ Less) more =
    λ k d inside. order_total.trans w u (get_or more k d) first (All-from_recursion (λ x. use_order u x ≡ Less) more t.0 k d inside) in
    let all = All-append (λ x. use_order w x ≡ Less) l (u ∷ more) (All-from_recursion (λ x. use_order w x ≡ Less) l s.0) (All-cons (λ x. use_order w x ≡ Less) u more first far) in
    (recursion_from_All (λ x. use_order w x ≡ Less) (l ++ u ∷ more) all, joined l more u (All-tail (λ x. use_order x u ≡ Less) w l before) s.1 t)

with_rises : (u : PartUse) (l : List PartUse) → Rises l → Rises (with_use u l)
unfolding IsStrictlySortedBy
with_rises u l s =
    let behind : All (λ w. use_order u w ≡ Less) (filter (comes_before u) l) = λ k d inside. less u _ (filter_passes (comes_before u) l k d inside) in
    joined (filter (λ w. comes_before w u) l) (filter (comes_before u) l) u (λ k d inside. less _ u (filter_passes (λ w. comes_before w u) l k d inside))
    (IsStrictlySortedBy-filter use_order (λ w. comes_before w u) l s)
    (recursion_from_All (λ w. use_order u w ≡ Less) (filter (comes_before u) l) behind, IsStrictlySortedBy-filter use_order (comes_before u) l s)

all_rise : (list more : List PartUse) → Rises list → Rises (rising_uses list more)
all_rise list [] s = s
all_rise list (u ∷ more) s = all_rise (with_use u list) more (with_rises u list s)

-- ---- none is new

of_with : (u w : PartUse) (l : List PartUse) → In w (with_use u l) → (w ≡ u) ⊎ In w l
of_with u w l i = by (in_append w (filter (λ x. comes_before x u) l) (u ∷ filter (comes_before u) l) i)
  where
    by : In w (filter (λ x. comes_before x u) l) ⊎ In w (u ∷ filter (comes_before u) l) → (w ≡ u) ⊎ In w l
    by (inl m) = inr (in_filter (λ x. comes_before x u) l w m).0
    by (inr (inl same)) = inl same
    by (inr (inr m)) = inr (in_filter (comes_before u) l w m).0

of_risen : (list more : List PartUse) (w : PartUse) → In w (rising_uses list more) → In w list ⊎ In w more
of_risen list [] w i = inl i
of_risen list (u ∷ more) w i = by (of_risen (with_use u list) more w i)
  where
    put_in : (w ≡ u) ⊎ In w list → In w list ⊎ In w (u ∷ more)
    put_in (inl same) = inr (inl same)
    put_in (inr m) = inl m

    by : In w (with_use u list) ⊎ In w more → In w list ⊎ In w (u ∷ more)
    by (inl m) = put_in (of_with u w list m)
    by (inr m) = inr (inr m)

-- ---- sorted, each once

module _ (all sorted once : List PartUse) (same : PartUse → PartUse → Bool) (ties : (u w : PartUse) → same u w ≡ is_eq (use_order u w))
    (moved : IsPermutation all sorted) (rising : IsSorted use_order sorted) (is : once ≡ dedup same sorted) where
  left : once ≡ dedup (eq_by_cmp use_order) sorted
  left = is ∙ (λ i. dedup (λ u w. ties u w i) sorted)

  forth : (u : PartUse) → In u all → In u once
  forth u i =
      contains_in once u (subst (λ (l : List PartUse). Contains l u) (sym left)
      (Contains-dedup (eq_by_cmp_equiv order_total) (tells_apart level_same) sorted u (Contains-permutation all sorted u moved (in_contains all u i))))

  back : (u : PartUse) → In u once → In u all
  back u i =
      let there = Contains-from_dedup (eq_by_cmp use_order) sorted u (subst (λ (l : List PartUse). Contains l u) left (in_contains once u i)) in
      contains_in all u (Contains-permutation sorted all u (IsPermutation-sym all sorted moved) there)

  told : (test : PartUse → Bool) → list_any test once ≡ list_any test (rising_uses [] all)
  told test =
      same_truth _ _ (λ h. let w = any_of test once h in risen test [] all w.0 (back w.0 w.1.0) w.1.1)
      (λ h. let w = any_of test (rising_uses [] all) h in by w.0 w.1.1 (of_risen [] all w.0 w.1.0))
    where
      by : (w : PartUse) → test w ≡ true → In w [] ⊎ In w all → list_any test once ≡ true
      by w t (inl m) = absurd m
      by w t (inr m) = any_in test once w (forth w m) t

  -- a list in this order is told by what is in it
  pub each_once : once ≡ rising_uses [] all
  unfolding IsStrictlySortedBy
  each_once =
      btree_set_from_contains order_total (record { keys = once }) (record { keys = rising_uses [] all })
      (subst Rises (sym left) (IsStrictlySortedBy-dedup order_total (λ u w. refl) sorted rising)) (all_rise [] all tt)
      (λ u. told (λ w. is_eq (use_order u w))) level_same
