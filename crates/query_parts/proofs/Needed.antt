-- Of some uses those that are needed, in order: each that is left out is of an endpoint that its part owns, or one that is
-- left allows all that it does.
use Rattle.std.proofs.Common.{◌≡◌, ℕ, ◌+◌, ◌≤◌, ◌<◌, ◌⊎◌, inl, inr, Bool, true, false, cond, ◌==◌, ◌&&◌, ◌||◌, nat_lt, List, [], ◌∷◌, length, get_or, refl, sym, ap, subst, ◌∙◌, arith, bit_and}
use Rattle.std.specs.Prelude.{not, suc, zero}
use Rattle.std.specs.Cmp.{IsTotalOrder, IsEquivalence, nat_cmp_total, on_total, then_total, unsigned_ties}
use Rattle.std.specs.Int.Bits.{and_self}
use Rattle.std.specs.List.{list_any, filter, dedup, count_by, Contains, AllAdjacentBelow}
use Rattle.std.specs.List.Sorted.{IsPermutation, IsSorted, IsStrictlySortedBy}
use Rattle.std.specs.Ordering.{ordering_then, nat_cmp, is_eq}
use Rattle.std.specs.declared.cmp.Ordering.{Ordering}
use Rattle.std.specs.declared.cmp.Ordering.TheVariants.{Less, Equal, Greater}
use Rattle.std.proofs.lemmas.Bool.{false≢true, eqb-true, eq-eqb}
use Rattle.std.proofs.lemmas.Cmp.{eq_by_cmp_equiv}
use Rattle.std.proofs.lemmas.List.Kept.{Contains-dedup, Contains-from_dedup, IsStrictlySortedBy-filter, IsStrictlySortedBy-dedup}
use Rattle.std.proofs.lemmas.List.Sorted.{Contains-permutation, IsPermutation-sym}
use Rattle.std.proofs.lemmas.Nat.{and_assoc}
use Rattle.cap_core.specs.declared.profile.ProfileName.{ProfileName}
use Rattle.cap_core.specs.declared.capability.Badge.{Badge}
use Rattle.cap_core.specs.declared.rights.Rights.{Rights}
use Rattle.kernel_delete.specs.Members.{In}
use Rattle.kernel_delete.proofs.Members.{both_true, either_true, true_left, true_right, any_of, any_in, all_of, in_filter, filter_in, eqb_self}
use Rattle.kernel_delete.proofs.Clearable.{in_contains, contains_in}
use Rattle.query_parts.specs.declared.listed.PartMemory.{PartMemory}
use Rattle.query_parts.specs.declared.listed.PartUse.{PartUse}
use Rattle.query_parts.specs.Listed.{allows}
use Rattle.query_parts.specs.Order.{comes_before, owns_endpoint, covers, says_more, is_needed}
use Rattle.query_parts.specs.Private.Arranging.{AreNeeded}
use Rattle.query_parts.proofs.Lists.{and_true}
use Rattle.query_parts.proofs.Joining.{count_less}

-- ---- what a use allows

-- what a use allows, one that allows all that it does allows too
pub allows_more : (part base : ℕ) (badge : Badge) (rights : Rights) (u w : PartUse) → covers w u ≡ true → allows part base badge rights u ≡ true →
    allows part base badge rights w ≡ true
allows_more part base badge rights u w more h =
    let m = both_true (w.part == u.part) _ more in
    let n = both_true (w.endpoint == u.endpoint) _ m.1 in
    let o = both_true (w.badge.0 == u.badge.0 || w.badge.0 == 0) _ n.1 in
    let a = both_true (u.part == part) _ h in
    let b = both_true (u.endpoint == base) _ a.1 in
    let d = both_true (u.badge.0 == badge.0 || u.badge.0 == 0) _ b.1 in
    and_true _ _ (eq-eqb w.part part (eqb-true w.part u.part m.0 ∙ eqb-true u.part part a.0))
    (and_true _ _ (eq-eqb w.endpoint base (eqb-true w.endpoint u.endpoint n.0 ∙ eqb-true u.endpoint base b.0))
    (and_true _ _ (badged (either_true (w.badge.0 == u.badge.0) _ o.0) (either_true (u.badge.0 == badge.0) _ d.0))
    (eq-eqb (bit_and rights.0 w.rights.0) rights.0 (fewer (eqb-true (bit_and u.rights.0 w.rights.0) u.rights.0 o.1) (eqb-true (bit_and rights.0 u.rights.0) rights.0 d.1)))))
  where
    badged : (w.badge.0 == u.badge.0 ≡ true) ⊎ (w.badge.0 == 0 ≡ true) → (u.badge.0 == badge.0 ≡ true) ⊎ (u.badge.0 == 0 ≡ true) →
        (w.badge.0 == badge.0 || w.badge.0 == 0) ≡ true
    badged (inr any) d = true_right _ _ any
    badged (inl same) (inl e) = true_left _ _ (eq-eqb w.badge.0 badge.0 (eqb-true w.badge.0 u.badge.0 same ∙ eqb-true u.badge.0 badge.0 e))
    badged (inl same) (inr none) = true_right _ _ (eq-eqb w.badge.0 0 (eqb-true w.badge.0 u.badge.0 same ∙ eqb-true u.badge.0 0 none))

    fewer : bit_and u.rights.0 w.rights.0 ≡ u.rights.0 → bit_and rights.0 u.rights.0 ≡ rights.0 → bit_and rights.0 w.rights.0 ≡ rights.0
    fewer one two =
        ap (λ n. bit_and n w.rights.0) (sym two) ∙ and_assoc w.rights.0 rights.0 u.rights.0 ∙ ap (bit_and rights.0) one ∙ two

covers_self : (u : PartUse) → covers u u ≡ true
covers_self u = and_true _ _ (eqb_self u.part) (and_true _ _ (eqb_self u.endpoint) (and_true _ _ (true_left _ _ (eqb_self u.badge.0)) (eq-eqb _ _ (and_self u.rights.0))))

covers_both : (a b c : PartUse) → covers a b ≡ true → covers b c ≡ true → covers a c ≡ true
covers_both a b c one two = allows_more c.part c.endpoint c.badge c.rights b a one two

opposite : (b : Bool) → not b ≡ true → b ≡ false
opposite true h = sym h
opposite false h = refl

-- what says more than one that says more, says more
more_still : (u w x : PartUse) → says_more u w ≡ true → says_more w x ≡ true → says_more u x ≡ true
more_still u w x one two =
    let a = both_true (covers w u) _ one in
    let b = both_true (covers x w) _ two in
    and_true _ _ (covers_both x w u b.0 a.0) (less (covers u x) refl (opposite (covers u w) a.1) b.0)
  where
    less : (b : Bool) → covers u x ≡ b → covers u w ≡ false → covers x w ≡ true → not b ≡ true
    less true h none more = absurd (false≢true (sym none ∙ covers_both u x w h more))
    less false h none more = refl

more_never : (w : PartUse) → says_more w w ≡ false
more_never w = ap (λ b. b && not b) (covers_self w)

-- a use that none says more than, and that allows all that another does
abbrev Greatest : List PartUse → PartUse → Type 0
Greatest l u = (w : PartUse) × (In w l × ((covers w u ≡ true) × (list_any (says_more w) l ≡ false)))

fewer_more : (l : List PartUse) (u w : PartUse) → In w l → says_more u w ≡ true → count_by (says_more w) l < count_by (says_more u) l
fewer_more l u w j more = count_less (says_more w) (says_more u) (λ x h. more_still u w x more h) l w j (more_never w) more

greatest : (l : List PartUse) (most : ℕ) (u : PartUse) → In u l → count_by (says_more u) l ≤ most → Greatest l u
greatest l zero u i few = by (list_any (says_more u) l) refl
  where
    by : (b : Bool) → list_any (says_more u) l ≡ b → Greatest l u
    by false none = (u, (i, (covers_self u, none)))
    by true some =
        let g = any_of (says_more u) l some in
        let fewer = fewer_more l u g.0 g.1.0 g.1.1 in absurd (omega (arith, fewer, few))
greatest l (suc most) u i few = by (list_any (says_more u) l) refl (λ w j h. greatest l most w j h)
  where
    by : (b : Bool) → list_any (says_more u) l ≡ b → ((w : PartUse) → In w l → count_by (says_more w) l ≤ most → Greatest l w) → Greatest l u
    by false none next = (u, (i, (covers_self u, none)))
    by true some next =
        let g = any_of (says_more u) l some in
        let fewer = fewer_more l u g.0 g.1.0 g.1.1 in
        let more = next g.0 g.1.0 (omega (arith, fewer, few)) in
        (more.0, (more.1.0, (covers_both more.0 g.0 u more.1.1.0 (both_true (covers g.0 u) _ g.1.1).0, more.1.1.1)))

-- ---- their order

abbrev pub use_order : PartUse → PartUse → Ordering
use_order u w =
    ordering_then (ordering_then (ordering_then (nat_cmp u.part w.part) (nat_cmp u.endpoint w.endpoint)) (nat_cmp u.badge.0 w.badge.0)) (nat_cmp u.rights.0 w.rights.0)

order_total : IsTotalOrder use_order
order_total =
    then_total (then_total (then_total (on_total (λ (u : PartUse). u.part) nat_cmp_total) (on_total (λ (u : PartUse). u.endpoint) nat_cmp_total))
    (on_total (λ (u : PartUse). u.badge.0) nat_cmp_total)) (on_total (λ (u : PartUse). u.rights.0) nat_cmp_total)

then_less : (o r : Ordering) → ordering_then o r ≡ Less → (o ≡ Less) ⊎ ((o ≡ Equal) × (r ≡ Less))
then_less Less r h = inl refl
then_less Equal r h = inr (refl, h)
then_less Greater r h = cc

then_equal : (o r : Ordering) → ordering_then o r ≡ Equal → (o ≡ Equal) × (r ≡ Equal)
then_equal Less r h = cc
then_equal Equal r h = (refl, h)
then_equal Greater r h = cc

cmp_less : (a b : ℕ) → nat_cmp a b ≡ Less → nat_lt a b ≡ true
cmp_less a b h = by (nat_lt a b) (a == b) h
  where
    by : (c d : Bool) → cond c Less (cond d Equal Greater) ≡ Less → c ≡ true
    by true d h = refl
    by false true h = cc
    by false false h = cc

cmp_equal : (a b : ℕ) → nat_cmp a b ≡ Equal → a == b ≡ true
cmp_equal a b h = by (nat_lt a b) (a == b) h
  where
    by : (c d : Bool) → cond c Less (cond d Equal Greater) ≡ Equal → d ≡ true
    by true d h = cc
    by false true h = refl
    by false false h = cc

less_before : (u w : PartUse) → use_order u w ≡ Less → comes_before u w ≡ true
less_before u w h = elim (then_less _ (nat_cmp u.rights.0 w.rights.0) h) [
  | inl three ↦ elim (then_less _ (nat_cmp u.badge.0 w.badge.0) three) [
    | inl two ↦ elim (then_less (nat_cmp u.part w.part) (nat_cmp u.endpoint w.endpoint) two) [
      | inl one ↦ true_left _ _ (cmp_less u.part w.part one)
      | inr s ↦ true_right _ _ (and_true _ _ (cmp_equal u.part w.part s.0) (true_left _ _ (cmp_less u.endpoint w.endpoint s.1)))
    ]
    | inr s ↦ let e = then_equal (nat_cmp u.part w.part) (nat_cmp u.endpoint w.endpoint) s.0 in
        true_right _ _ (and_true _ _ (cmp_equal u.part w.part e.0) (true_right _ _ (and_true _ _ (cmp_equal u.endpoint w.endpoint e.1)
        (true_left _ _ (cmp_less u.badge.0 w.badge.0 s.1)))))
  ]
  | inr s ↦ let f = then_equal _ (nat_cmp u.badge.0 w.badge.0) s.0 in
      let e = then_equal (nat_cmp u.part w.part) (nat_cmp u.endpoint w.endpoint) f.0 in
      true_right _ _ (and_true _ _ (cmp_equal u.part w.part e.0) (true_right _ _ (and_true _ _ (cmp_equal u.endpoint w.endpoint e.1)
      (true_right _ _ (and_true _ _ (cmp_equal u.badge.0 w.badge.0 f.1) (cmp_less u.rights.0 w.rights.0 s.1))))))
]

use_same : (u w : PartUse) → use_order u w ≡ Equal → u ≡ w
use_same u w h =
    let g = then_equal _ (nat_cmp u.rights.0 w.rights.0) h in
    let f = then_equal _ (nat_cmp u.badge.0 w.badge.0) g.0 in
    let e = then_equal (nat_cmp u.part w.part) (nat_cmp u.endpoint w.endpoint) f.0 in
    ap made (eqb-true u.part w.part (cmp_equal u.part w.part e.0)) ∙ ap endpointed (eqb-true u.endpoint w.endpoint (cmp_equal u.endpoint w.endpoint e.1))
    ∙ ap badged (eqb-true u.badge.0 w.badge.0 (cmp_equal u.badge.0 w.badge.0 f.1)) ∙ ap righted (eqb-true u.rights.0 w.rights.0 (cmp_equal u.rights.0 w.rights.0 g.1))
  where
    made : ℕ → PartUse
    made k = record { part = k; endpoint = u.endpoint; badge = u.badge; rights = u.rights }

    endpointed : ℕ → PartUse
    endpointed k = record { part = w.part; endpoint = k; badge = u.badge; rights = u.rights }

    badged : ℕ → PartUse
    badged k = record { part = w.part; endpoint = w.endpoint; badge = record { 0 = k }; rights = u.rights }

    righted : ℕ → PartUse
    righted k = record { part = w.part; endpoint = w.endpoint; badge = w.badge; rights = record { 0 = k } }

eq_equal : (o : Ordering) → is_eq o ≡ true → o ≡ Equal
eq_equal Less h = absurd (false≢true h)
eq_equal Equal h = refl
eq_equal Greater h = absurd (false≢true h)

then_eq : (o r : Ordering) → is_eq (ordering_then o r) ≡ is_eq o && is_eq r
then_eq Less r = refl
then_eq Equal r = refl
then_eq Greater r = refl

regrouped : (a b c d : Bool) → a && (b && (c && d)) ≡ ((a && b) && c) && d
regrouped true true c d = refl
regrouped true false c d = refl
regrouped false b c d = refl

-- two uses are the same where their order ties them
pub same_ties : (u w : PartUse) → u.part == w.part && (u.endpoint == w.endpoint && (u.badge.0 == w.badge.0 && u.rights.0 == w.rights.0)) ≡ is_eq (use_order u w)
same_ties u w =
    regrouped (u.part == w.part) (u.endpoint == w.endpoint) (u.badge.0 == w.badge.0) (u.rights.0 == w.rights.0)
    ∙ ap (λ b. ((b && u.endpoint == w.endpoint) && u.badge.0 == w.badge.0) && u.rights.0 == w.rights.0) (unsigned_ties u.part w.part)
    ∙ ap (λ b. ((is_eq (nat_cmp u.part w.part) && b) && u.badge.0 == w.badge.0) && u.rights.0 == w.rights.0) (unsigned_ties u.endpoint w.endpoint)
    ∙ ap (λ b. (b && u.badge.0 == w.badge.0) && u.rights.0 == w.rights.0) (sym (then_eq (nat_cmp u.part w.part) (nat_cmp u.endpoint w.endpoint)))
    ∙ ap (λ b. (is_eq (ordering_then (nat_cmp u.part w.part) (nat_cmp u.endpoint w.endpoint)) && b) && u.rights.0 == w.rights.0) (unsigned_ties u.badge.0 w.badge.0)
    ∙ ap (λ b. b && u.rights.0 == w.rights.0) (sym (then_eq (ordering_then (nat_cmp u.part w.part) (nat_cmp u.endpoint w.endpoint)) (nat_cmp u.badge.0 w.badge.0)))
    ∙ ap (λ b. is_eq (ordering_then (ordering_then (nat_cmp u.part w.part) (nat_cmp u.endpoint w.endpoint)) (nat_cmp u.badge.0 w.badge.0)) && b) (unsigned_ties u.rights.0 w.rights.0)
    ∙ sym (then_eq (ordering_then (ordering_then (nat_cmp u.part w.part) (nat_cmp u.endpoint w.endpoint)) (nat_cmp u.badge.0 w.badge.0)) (nat_cmp u.rights.0 w.rights.0))

strict_rising : (l : List PartUse) → IsStrictlySortedBy use_order l → AllAdjacentBelow (λ u w. comes_before u w ≡ true) l (length l)
unfolding IsStrictlySortedBy
strict_rising [] s k d low = absurd (omega (arith, low))
strict_rising (u ∷ []) s k d low = absurd (omega (arith, low))
strict_rising (u ∷ (w ∷ ws)) s zero d low = less_before u w s.0.0
strict_rising (u ∷ (w ∷ ws)) s (suc k) d low =
    let next : suc k + 1 ≡ suc (k + 1) = omega arith in
    subst (λ j. comes_before (get_or (u ∷ (w ∷ ws)) (suc k) d) (get_or (u ∷ (w ∷ ws)) j d) ≡ true) (sym next)
    (strict_rising (w ∷ ws) s.1 k d (omega (arith, low)))

-- ---- those that are left

module _ (p : ProfileName) (memory : List PartMemory) (uses sorted once told : List PartUse) (same : PartUse → PartUse → Bool)
    (ties : (u w : PartUse) → same u w ≡ is_eq (use_order u w)) (moved : IsPermutation uses sorted) (rising : IsSorted use_order sorted)
    (is : once ≡ dedup same sorted) (left : told ≡ filter (is_needed p memory once) once) where
  equal : IsEquivalence same
  equal =
      let e = eq_by_cmp_equiv order_total in
      record {
        refl = λ u. ties u u ∙ e.refl u;
        symm = λ u w. ties u w ∙ e.symm u w ∙ sym (ties w u);
        congr = λ u w x h. ties u x ∙ e.congr u w x (sym (ties u w) ∙ h) ∙ sym (ties w x);
      }

  forth : (u : PartUse) → In u uses → In u once
  forth u i =
      contains_in once u (subst (λ (l : List PartUse). Contains l u) (sym is)
      (Contains-dedup equal (λ x y h. use_same x y (eq_equal _ (sym (ties x y) ∙ h))) sorted u (Contains-permutation uses sorted u moved (in_contains uses u i))))

  back : (u : PartUse) → In u once → In u uses
  back u i =
      let there = Contains-from_dedup same sorted u (subst (λ (l : List PartUse). Contains l u) is (in_contains once u i)) in
      contains_in uses u (Contains-permutation sorted uses u (IsPermutation-sym uses sorted moved) there)

  of_told : (u : PartUse) → In u told → (In u once) × (is_needed p memory once u ≡ true)
  of_told u i = in_filter (is_needed p memory once) once u (subst (λ (l : List PartUse). In u l) left i)

  to_told : (u : PartUse) → In u once → is_needed p memory once u ≡ true → In u told
  to_told u i needs = subst (λ (l : List PartUse). In u l) (sym left) (filter_in (is_needed p memory once) once u i needs)

  left_out : (u : PartUse) → In u once → (owns_endpoint p memory u.part u.endpoint ≡ true) ⊎ ((w : PartUse) × (In w told × (covers w u ≡ true)))
  left_out u i = let g = greatest once (count_by (says_more u) once) u i (omega arith) in by g.0 g.1.0 g.1.1.0 g.1.1.1 (owns_endpoint p memory u.part u.endpoint) refl
    where
      by : (w : PartUse) → In w once → covers w u ≡ true → list_any (says_more w) once ≡ false → (b : Bool) → owns_endpoint p memory u.part u.endpoint ≡ b →
          (b ≡ true) ⊎ ((w : PartUse) × (In w told × (covers w u ≡ true)))
      by w j more none true owned = inl refl
      by w j more none false other =
          let m = both_true (w.part == u.part) _ more in
          let n = both_true (w.endpoint == u.endpoint) _ m.1 in
          let foreign : owns_endpoint p memory w.part w.endpoint ≡ false =
          ap (λ k. owns_endpoint p memory k w.endpoint) (eqb-true w.part u.part m.0) ∙ ap (owns_endpoint p memory u.part) (eqb-true w.endpoint u.endpoint n.0) ∙ other in
          inr (w, (to_told w j (and_true _ _ (ap not foreign) (ap not none)), more))

  pub uses_needed : AreNeeded p memory uses told
  uses_needed = record {
    only = λ u i. back u (of_told u i).0;
    covered = λ u i. left_out u (forth u i);
    rising = strict_rising told
        (subst (IsStrictlySortedBy use_order) (sym left)
        (IsStrictlySortedBy-filter use_order (is_needed p memory once) once
        (subst (IsStrictlySortedBy use_order) (sym is) (IsStrictlySortedBy-dedup order_total ties sorted rising))));
    needed = all_of (is_needed p memory told) told (λ u i. let k = of_told u i in needs u (both_true (not (owns_endpoint p memory u.part u.endpoint)) _ k.1));
  }
    where
      none_more : (u : PartUse) → list_any (says_more u) once ≡ false → (b : Bool) → list_any (says_more u) told ≡ b → not b ≡ true
      none_more u none true some =
          let g = any_of (says_more u) told some in
          absurd (false≢true (sym none ∙ any_in (says_more u) once g.0 (of_told g.0 g.1.0).0 g.1.1))
      none_more u none false h = refl

      needs : (u : PartUse) → (not (owns_endpoint p memory u.part u.endpoint) ≡ true) × (not (list_any (says_more u) once) ≡ true) → is_needed p memory told u ≡ true
      needs u h = and_true _ _ h.0 (none_more u (opposite (list_any (says_more u) once) h.1) (list_any (says_more u) told) refl)
