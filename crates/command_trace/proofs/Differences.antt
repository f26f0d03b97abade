-- How lines differ that rise by their addresses: the least address first, and then the rest.
use Rattle.std.proofs.Common.{◌≡◌, ℕ, zero, suc, ◌+◌, ◌<◌, ◌==◌, false, cond, List, [], ◌∷◌, ◌++◌, map, drop, length, slice_get, get_or, Option, None, Some, option_map, refl, sym, ap, subst, ◌∙◌, arith, append_assoc, eq-eqb}
use Rattle.std.specs.List.{AllByRecursion, flat_map}
use Rattle.std.specs.List.Sorted.{IsStrictlySortedBy}
use Rattle.std.specs.Ordering.{nat_cmp, match_ordering, ordering_reverse}
use Rattle.std.specs.Cmp.{nat_cmp_total}
use Rattle.std.proofs.lemmas.Cmp.{tied_itself}
use Rattle.std.specs.FinMap.{nat_cmp-IsAntisymmetric}
use Rattle.std.specs.declared.cmp.Ordering.TheVariants.{Less, Equal, Greater}
use Rattle.std.specs.BTreeSet.{insert_key}
use Rattle.std.proofs.lemmas.Bool.{ne_eqb}
use Rattle.setup_report.specs.State.{rising}
use Rattle.command_trace.specs.Lines.{Lines}
use Rattle.command_trace.specs.Changes.{text_at, change, change_at, line_addresses, line_changes, removed_line, added}
use Rattle.command_trace.specs.Private.Listed.{line_order}

abbrev pub Below : ℕ → List ℕ → Type 0
Below k xs = AllByRecursion (λ y. nat_cmp k y ≡ Less) xs

-- ---- the least of some addresses comes first

below_insert : (k x : ℕ) (xs : List ℕ) → nat_cmp k x ≡ Less → Below k xs → Below k (insert_key nat_cmp xs x)
below_insert k x [] e h = (e, tt)
below_insert k x (y ∷ ys) e h =
    elim (nat_cmp x y) as (λ o. Below k (match_ordering o (x ∷ y ∷ ys) (y ∷ ys) (y ∷ insert_key nat_cmp ys x))) [
      | Less ↦ (e, h)
      | Equal ↦ h
      | Greater ↦ (h.0, below_insert k x ys e h.1)
    ]

pub below_rising : (k : ℕ) (xs : List ℕ) → Below k xs → Below k (rising xs)
below_rising k [] h = tt
below_rising k (x ∷ xs) h = below_insert k x (rising xs) h.0 (below_rising k xs h.1)

insert_least : (k : ℕ) (xs : List ℕ) → Below k xs → insert_key nat_cmp xs k ≡ k ∷ xs
insert_least k [] h = refl
insert_least k (x ∷ xs) h = ap (λ o. match_ordering o (k ∷ x ∷ xs) (x ∷ xs) (x ∷ insert_key nat_cmp xs k)) h.0

pub equal_self : (k : ℕ) → nat_cmp k k ≡ Equal
equal_self k = tied_itself nat_cmp_total k

insert_again : (k : ℕ) (xs : List ℕ) → insert_key nat_cmp (k ∷ xs) k ≡ k ∷ xs
insert_again k xs = ap (λ o. match_ordering o (k ∷ k ∷ xs) (k ∷ xs) (k ∷ insert_key nat_cmp xs k)) (equal_self k)

pub greater_than : (k x : ℕ) → nat_cmp k x ≡ Less → nat_cmp x k ≡ Greater
greater_than k x e = nat_cmp_total.antisymm x k ∙ ap ordering_reverse e

insert_past : (k x : ℕ) (xs : List ℕ) → nat_cmp k x ≡ Less → insert_key nat_cmp (k ∷ xs) x ≡ k ∷ insert_key nat_cmp xs x
insert_past k x xs e = ap (λ o. match_ordering o (x ∷ k ∷ xs) (k ∷ xs) (k ∷ insert_key nat_cmp xs x)) (greater_than k x e)

pub below_both : (k : ℕ) (xs ys : List ℕ) → Below k xs → Below k ys → Below k (xs ++ ys)
below_both k [] ys a b = b
below_both k (x ∷ xs) ys a b = (a.0, below_both k xs ys a.1 b)

pub least_left : (k : ℕ) (xs ys : List ℕ) → Below k xs → Below k ys → rising (k ∷ xs ++ ys) ≡ k ∷ rising (xs ++ ys)
least_left k xs ys a b = insert_least k (rising (xs ++ ys)) (below_rising k (xs ++ ys) (below_both k xs ys a b))

pub least_right : (k : ℕ) (xs ys : List ℕ) → Below k xs → Below k ys → rising (xs ++ k ∷ ys) ≡ k ∷ rising (xs ++ ys)
least_right k [] ys a b = insert_least k (rising ys) (below_rising k ys b)
least_right k (x ∷ xs) ys a b = ap (λ l. insert_key nat_cmp l x) (least_right k xs ys a.1 b) ∙ insert_past k x (rising (xs ++ ys)) a.0

pub least_twice : (k : ℕ) (xs ys : List ℕ) → Below k xs → Below k ys → rising (k ∷ xs ++ k ∷ ys) ≡ k ∷ rising (xs ++ ys)
least_twice k xs ys a b = ap (λ l. insert_key nat_cmp l k) (least_right k xs ys a b) ∙ insert_again k (rising (xs ++ ys))

-- ---- what is found at an address

pub different : (k q : ℕ) → nat_cmp k q ≡ Less → (k == q) ≡ false
different k q e = ne_eqb k q (λ same. let t : Equal ≡ Less = sym (equal_self k) ∙ ap (nat_cmp k) same ∙ e in cc)

pub found_here : (k : ℕ) (t : List ℕ) (l : Lines) → text_at k ((k, t) ∷ l) ≡ Some t
found_here k t l = ap (λ b. cond b (Some t) (text_at k l)) (eq-eqb k k refl)

pub found_past : (k q : ℕ) (t : List ℕ) (l : Lines) → nat_cmp k q ≡ Less → text_at q ((k, t) ∷ l) ≡ text_at q l
found_past k q t l e = ap (λ b. cond b (Some t) (text_at q l)) (different k q e)

pub not_found : (k : ℕ) (l : Lines) → Below k (line_addresses l) → text_at k l ≡ None
not_found k [] h = refl
not_found k (x ∷ l) h = ap (λ b. cond b (Some x.1) (text_at k l)) (ne_eqb x.0 k (λ same. let t : Equal ≡ Less = sym (equal_self k) ∙ ap (nat_cmp k) (sym same) ∙ h.0 in cc)) ∙ not_found k l h.1

-- ---- the least address apart from the others

flat_alike : (f g : ℕ → List ℕ) (k : ℕ) (xs : List ℕ) → Below k xs → ((q : ℕ) → nat_cmp k q ≡ Less → f q ≡ g q) → flat_map f xs ≡ flat_map g xs
flat_alike f g k [] h same = refl
flat_alike f g k (x ∷ xs) h same = λ i. same x h.0 i ++ flat_alike f g k xs h.1 same i

module _ (k : ℕ) (l m : Lines) (a : Below k (line_addresses l)) (b : Below k (line_addresses m)) where
  rest_below : Below k (rising (line_addresses l ++ line_addresses m))
  rest_below = below_rising k _ (below_both k (line_addresses l) (line_addresses m) a b)

  pub old_first : (t : List ℕ) → line_changes ((k, t) ∷ l) m ≡ removed_line (Some t) ++ line_changes l m
  old_first t =
      ap (flat_map (change_at ((k, t) ∷ l) m)) (least_left k (line_addresses l) (line_addresses m) a b)
      ∙ (λ i. change (found_here k t l i) (not_found k m b i)
      ++ flat_alike (change_at ((k, t) ∷ l) m) (change_at l m) k (rising (line_addresses l ++ line_addresses m)) rest_below
      (λ q e. ap (λ o. change o (text_at q m)) (found_past k q t l e)) i)

  pub new_first : (t : List ℕ) → line_changes l ((k, t) ∷ m) ≡ added (Some t) ++ line_changes l m
  new_first t =
      ap (flat_map (change_at l ((k, t) ∷ m))) (least_right k (line_addresses l) (line_addresses m) a b)
      ∙ (λ i. change (not_found k l a i) (found_here k t m i)
      ++ flat_alike (change_at l ((k, t) ∷ m)) (change_at l m) k (rising (line_addresses l ++ line_addresses m)) rest_below
      (λ q e. ap (change (text_at q l)) (found_past k q t m e)) i)

  pub both_first : (t u : List ℕ) → line_changes ((k, t) ∷ l) ((k, u) ∷ m) ≡ change (Some t) (Some u) ++ line_changes l m
  both_first t u =
      ap (flat_map (change_at ((k, t) ∷ l) ((k, u) ∷ m))) (least_twice k (line_addresses l) (line_addresses m) a b)
      ∙ (λ i. change (found_here k t l i) (found_here k u m i)
      ++ flat_alike (change_at ((k, t) ∷ l) ((k, u) ∷ m)) (change_at l m) k (rising (line_addresses l ++ line_addresses m)) rest_below
      (λ q e. ap (λ o. change o (text_at q ((k, u) ∷ m))) (found_past k q t l e) ∙ ap (change (text_at q l)) (found_past k q u m e)) i)

-- ---- the same of lines that are read from places on

abbrev Rises : Lines → Type 0
Rises l = IsStrictlySortedBy nat_cmp (line_addresses l)

from_place : {X : Type 0} (l : List X) (i : ℕ) (x : X) → slice_get l i ≡ Some x → drop i l ≡ x ∷ drop (suc i) l
from_place [] i x is = cc
from_place (y ∷ l) zero x is = let d : y ≡ x = cc in ap (λ z. z ∷ l) d
from_place (y ∷ l) (suc i) x is = from_place l i x is

pub from_next : {X : Type 0} (l : List X) (i : ℕ) (x : X) → slice_get l i ≡ Some x → drop i l ≡ x ∷ drop (i + 1) l
from_next l i x is = let n : suc i ≡ i + 1 = omega arith in from_place l i x is ∙ ap (λ k. x ∷ drop k l) n

past_end : {X : Type 0} (l : List X) (i : ℕ) → slice_get l i ≡ None → drop i l ≡ []
past_end [] zero is = refl
past_end [] (suc i) is = refl
past_end (y ∷ l) zero is = cc
past_end (y ∷ l) (suc i) is = past_end l i is

rises_drop : (l : Lines) (i : ℕ) → Rises l → Rises (drop i l)
unfolding IsStrictlySortedBy
rises_drop [] zero h = h
rises_drop [] (suc i) h = h
rises_drop (x ∷ l) zero h = h
rises_drop (x ∷ l) (suc i) h = rises_drop l i h.1

rest_below_first : (x : ℕ × List ℕ) (l m : Lines) → l ≡ x ∷ m → Rises l → Below x.0 (line_addresses m)
unfolding IsStrictlySortedBy
rest_below_first x l m e h = let r : Rises (x ∷ m) = subst Rises e h in r.0

pub below_trans : (k x : ℕ) (xs : List ℕ) → nat_cmp k x ≡ Less → Below x xs → Below k xs
below_trans k x [] e h = tt
below_trans k x (y ∷ ys) e h = (nat_cmp_total.trans k x y e h.0, below_trans k x ys e h.1)

-- lines from a place on are past an address, where there are none or the first of them is
below_place : (k : ℕ) (n : Lines) (j : ℕ) (o : Option (ℕ × List ℕ)) → slice_get n j ≡ o → Rises n → ((b : ℕ × List ℕ) → o ≡ Some b → nat_cmp k b.0 ≡ Less) → Below k (line_addresses (drop j n))
below_place k n j None is rises less = subst (λ l. Below k (line_addresses l)) (sym (past_end n j is)) tt
below_place k n j (Some b) is rises less =
    let here = from_next n j b is in
    subst (λ l. Below k (line_addresses l)) (sym here)
    (less b refl, below_trans k b.0 (line_addresses (drop (j + 1) n)) (less b refl) (rest_below_first b (drop j n) (drop (j + 1) n) here (rises_drop n j rises)))

less_so : (a : ℕ × List ℕ) (o : Option (ℕ × List ℕ)) → line_order (Some a) o ≡ Less → (b : ℕ × List ℕ) → o ≡ Some b → nat_cmp a.0 b.0 ≡ Less
less_so a None is b e = cc
less_so a (Some c) is b e = let d : c ≡ b = cc in ap (λ (x : ℕ × List ℕ). nat_cmp a.0 x.0) (sym d) ∙ is

pub reversed : (x y : ℕ) → nat_cmp x y ≡ Greater → nat_cmp y x ≡ Less
reversed x y e = nat_cmp_total.antisymm y x ∙ ap ordering_reverse e

greater_so : (b : ℕ × List ℕ) (o : Option (ℕ × List ℕ)) → line_order o (Some b) ≡ Greater → (a : ℕ × List ℕ) → o ≡ Some a → nat_cmp b.0 a.0 ≡ Less
greater_so b None is a e = cc
greater_so b (Some c) is a e =
    let d : c ≡ a = cc in
    ap (λ (x : ℕ × List ℕ). nat_cmp b.0 x.0) (sym d) ∙ reversed c.0 b.0 is

module _ (o n : Lines) (i j : ℕ) (rises_old : Rises o) (rises_new : Rises n) where
  pub step_old : (a : ℕ × List ℕ) → slice_get o i ≡ Some a → line_order (slice_get o i) (slice_get n j) ≡ Less →
      line_changes (drop i o) (drop j n) ≡ removed_line (Some a.1) ++ line_changes (drop (i + 1) o) (drop j n)
  step_old a is less =
      let here = from_next o i a is in
      ap (λ l. line_changes l (drop j n)) here
      ∙ old_first a.0 (drop (i + 1) o) (drop j n)
      (rest_below_first a (drop i o) (drop (i + 1) o) here (rises_drop o i rises_old))
      (below_place a.0 n j (slice_get n j) refl rises_new (less_so a (slice_get n j) (sym (ap (λ x. line_order x (slice_get n j)) is) ∙ less)))
      a.1

  pub step_new : (b : ℕ × List ℕ) → slice_get n j ≡ Some b → line_order (slice_get o i) (slice_get n j) ≡ Greater →
      line_changes (drop i o) (drop j n) ≡ added (Some b.1) ++ line_changes (drop i o) (drop (j + 1) n)
  step_new b is greater =
      let here = from_next n j b is in
      ap (λ l. line_changes (drop i o) l) here
      ∙ new_first b.0 (drop i o) (drop (j + 1) n)
      (below_place b.0 o i (slice_get o i) refl rises_old (greater_so b (slice_get o i) (sym (ap (line_order (slice_get o i)) is) ∙ greater)))
      (rest_below_first b (drop j n) (drop (j + 1) n) here (rises_drop n j rises_new))
      b.1

  pub step_both : (a b : ℕ × List ℕ) → slice_get o i ≡ Some a → slice_get n j ≡ Some b → line_order (slice_get o i) (slice_get n j) ≡ Equal →
      line_changes (drop i o) (drop j n) ≡ change (Some a.1) (Some b.1) ++ line_changes (drop (i + 1) o) (drop (j + 1) n)
  step_both a b is_a is_b equal =
      let here = from_next o i a is_a in
      let there = from_next n j b is_b in
      let same : a.0 ≡ b.0 = nat_cmp-IsAntisymmetric a.0 b.0 (sym (λ k. line_order (is_a k) (is_b k)) ∙ equal) in
      (λ k. line_changes (here k) (there k))
      ∙ ap (λ k. line_changes (a ∷ drop (i + 1) o) ((k, b.1) ∷ drop (j + 1) n)) (sym same)
      ∙ both_first a.0 (drop (i + 1) o) (drop (j + 1) n)
      (rest_below_first a (drop i o) (drop (i + 1) o) here (rises_drop o i rises_old))
      (subst (λ k. Below k (line_addresses (drop (j + 1) n))) (sym same) (rest_below_first b (drop j n) (drop (j + 1) n) there (rises_drop n j rises_new)))
      a.1 b.1

pub get_map : {X Y : Type 0} (f : X → Y) (list : List X) (i : ℕ) → slice_get (map f list) i ≡ option_map f (slice_get list i)
get_map f [] i = refl
get_map f (x ∷ list) zero = refl
get_map f (x ∷ list) (suc i) = get_map f list i

-- a part of what is left is written
pub written : (before after start part rest left all : List ℕ) → after ≡ before ++ part → left ≡ part ++ rest → before ++ left ≡ start ++ all → after ++ rest ≡ start ++ all
written before after start part rest left all wrote is so =
    ap (λ t. t ++ rest) wrote ∙ append_assoc before part rest ∙ ap (λ t. before ++ t) (sym is) ∙ so

-- what stands at a place within a list
pub indexed : {X : Type 0} (list : List X) (i : ℕ) (d : X) → i < length list → slice_get list i ≡ Some (get_or list i d)
indexed [] i d h = absurd (omega (arith, h))
indexed (x ∷ list) zero d h = refl
indexed (x ∷ list) (suc i) d h = indexed list i d (omega (arith, h))

pub viewed : {X Y : Type 0} (f : X → Y) (list : List X) (i : ℕ) (x : X) → i < length list → x ≡ get_or list i x → slice_get (map f list) i ≡ Some (f x)
viewed f list i x within is = get_map f list i ∙ ap (option_map f) (indexed list i x within ∙ ap Some (sym is))
