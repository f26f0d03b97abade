-- The differences of lines that rise, applied to the old ones, give the new ones; and their text is what is told.
use Rattle.std.proofs.Common.{◌≡◌, ℕ, Bool, true, false, cond, not, List, [], ◌∷◌, ◌++◌, map, Option, None, Some, refl, sym, ap, subst, ◌∙◌, append-nil, eq-eqb, nat_eq}
use Rattle.std.specs.List.{AllByRecursion, filter, flat_map}
use Rattle.std.specs.List.Sorted.{IsStrictlySortedBy}
use Rattle.std.specs.Ordering.{nat_cmp, match_ordering}
use Rattle.std.specs.FinMap.{nat_cmp-IsAntisymmetric}
use Rattle.std.specs.BTreeMap.{insert_entry}
use Rattle.std.specs.declared.cmp.Ordering.TheVariants.{Less, Equal, Greater}
use Rattle.std.proofs.lemmas.Bool.{ne_eqb}
use Rattle.std.proofs.lemmas.Slice.Eq.{bytes_eq-Decides}
use lib.Pointwise.{pointwise}
use Rattle.setup_report.specs.State.{rising}
use Rattle.command_trace.specs.Lines.{Lines}
use Rattle.command_trace.specs.Changes.{text_at, removed_line, added, change, change_at, line_addresses, line_changes}
use Rattle.command_trace_laws.specs.Laws.{Difference, difference_at, is_difference, differences, difference_text, lines_without, with_line, apply, applied, Rise}
use Rattle.command_trace.proofs.Differences.{Below, below_both, below_rising, below_trans, least_left, least_right, least_twice, equal_self, greater_than, reversed, different, found_here, found_past, not_found}

-- ---- their text is what is told

abbrev difference : ℕ → Option (List ℕ) → Option (List ℕ) → Difference
difference k old new = record { address = k; old = old; new = new }

abbrev put : Difference → List Difference → List Difference
put d ds = cond (is_difference d) (d ∷ ds) ds

told_one : (k : ℕ) (old new : Option (List ℕ)) (ds : List Difference) → flat_map difference_text (put (difference k old new) ds) ≡ change old new ++ flat_map difference_text ds
told_one k None None ds = refl
told_one k None (Some new) ds = refl
told_one k (Some old) None ds = ap (λ l. l ++ flat_map difference_text ds) (append-nil (removed_line (Some old)))
told_one k (Some old) (Some new) ds =
    elim (pointwise nat_eq old new) as (λ b. flat_map difference_text (cond (not b) (difference k (Some old) (Some new) ∷ ds) ds) ≡ cond b [] (removed_line (Some old) ++ added (Some new)) ++ flat_map difference_text ds) [
      | true ↦ refl
      | false ↦ refl
    ]

told_each : (old new : Lines) (xs : List ℕ) → flat_map difference_text (filter is_difference (map (difference_at old new) xs)) ≡ flat_map (change_at old new) xs
told_each old new [] = refl
told_each old new (x ∷ xs) =
    told_one x (text_at x old) (text_at x new) (filter is_difference (map (difference_at old new) xs))
    ∙ ap (λ l. change_at old new x ++ l) (told_each old new xs)

pub all_told : (old new : Lines) → line_changes old new ≡ flat_map difference_text (differences old new)
all_told old new = sym (told_each old new (rising (line_addresses old ++ line_addresses new)))

-- ---- the least address apart from the others

abbrev Past : ℕ → List Difference → Type 0
Past k ds = AllByRecursion (λ (d : Difference). nat_cmp k d.address ≡ Less) ds

kept_past : (k : ℕ) (old new : Lines) (xs : List ℕ) → Below k xs → Past k (filter is_difference (map (difference_at old new) xs))
kept_past k old new [] h = tt
kept_past k old new (x ∷ xs) h =
    elim (is_difference (difference_at old new x)) as (λ b. Past k (cond b (difference_at old new x ∷ filter is_difference (map (difference_at old new) xs)) (filter is_difference (map (difference_at old new) xs)))) [
      | true ↦ (h.0, kept_past k old new xs h.1)
      | false ↦ kept_past k old new xs h.1
    ]

kept_alike : (f g : ℕ → Difference) (k : ℕ) (xs : List ℕ) → Below k xs → ((q : ℕ) → nat_cmp k q ≡ Less → f q ≡ g q) →
    filter is_difference (map f xs) ≡ filter is_difference (map g xs)
kept_alike f g k [] h same = refl
kept_alike f g k (x ∷ xs) h same =
    λ i. cond (is_difference (same x h.0 i)) (same x h.0 i ∷ kept_alike f g k xs h.1 same i) (kept_alike f g k xs h.1 same i)

module _ (k : ℕ) (l m : Lines) (a : Below k (line_addresses l)) (b : Below k (line_addresses m)) where
  abbrev others : List ℕ
  others = rising (line_addresses l ++ line_addresses m)

  others_below : Below k others
  others_below = below_rising k _ (below_both k (line_addresses l) (line_addresses m) a b)

  rest_past : Past k (differences l m)
  rest_past = kept_past k l m others others_below

  old_apart : (t : List ℕ) → differences ((k, t) ∷ l) m ≡ put (difference k (Some t) None) (differences l m)
  old_apart t =
      ap (λ xs. filter is_difference (map (difference_at ((k, t) ∷ l) m) xs)) (least_left k (line_addresses l) (line_addresses m) a b)
      ∙ (λ i. put (difference k (found_here k t l i) (not_found k m b i))
      (kept_alike (difference_at ((k, t) ∷ l) m) (difference_at l m) k others others_below
      (λ q e. ap (λ o. difference q o (text_at q m)) (found_past k q t l e)) i))

  new_apart : (t : List ℕ) → differences l ((k, t) ∷ m) ≡ put (difference k None (Some t)) (differences l m)
  new_apart t =
      ap (λ xs. filter is_difference (map (difference_at l ((k, t) ∷ m)) xs)) (least_right k (line_addresses l) (line_addresses m) a b)
      ∙ (λ i. put (difference k (not_found k l a i) (found_here k t m i))
      (kept_alike (difference_at l ((k, t) ∷ m)) (difference_at l m) k others others_below
      (λ q e. ap (difference q (text_at q l)) (found_past k q t m e)) i))

  both_apart : (t u : List ℕ) → differences ((k, t) ∷ l) ((k, u) ∷ m) ≡ put (difference k (Some t) (Some u)) (differences l m)
  both_apart t u =
      ap (λ xs. filter is_difference (map (difference_at ((k, t) ∷ l) ((k, u) ∷ m)) xs)) (least_twice k (line_addresses l) (line_addresses m) a b)
      ∙ (λ i. put (difference k (found_here k t l i) (found_here k u m i))
      (kept_alike (difference_at ((k, t) ∷ l) ((k, u) ∷ m)) (difference_at l m) k others others_below
      (λ q e. ap (λ o. difference q o (text_at q ((k, u) ∷ m))) (found_past k q t l e) ∙ ap (difference q (text_at q l)) (found_past k q u m e)) i))

-- ---- differences past the first line leave it

put_past : (k q : ℕ) (t : List ℕ) (l : Lines) (o : Option (List ℕ)) → nat_cmp k q ≡ Less → with_line q o ((k, t) ∷ l) ≡ (k, t) ∷ with_line q o l
put_past k q t l None e = refl
put_past k q t l (Some u) e = ap (λ o. match_ordering o ((q, u) ∷ (k, t) ∷ l) ((k, u) ∷ l) ((k, t) ∷ insert_entry nat_cmp l q u)) (greater_than k q e)

one_past : (k : ℕ) (t : List ℕ) (l : Lines) (d : Difference) → nat_cmp k d.address ≡ Less → apply ((k, t) ∷ l) d ≡ (k, t) ∷ apply l d
one_past k t l d e =
    ap (λ b. with_line d.address d.new (cond (not b) ((k, t) ∷ lines_without d.address l) (lines_without d.address l))) (different k d.address e)
    ∙ put_past k d.address t (lines_without d.address l) d.new e

first_stays : (k : ℕ) (t : List ℕ) (l : Lines) (ds : List Difference) → Past k ds → applied ((k, t) ∷ l) ds ≡ (k, t) ∷ applied l ds
first_stays k t l [] h = refl
first_stays k t l (d ∷ ds) h = ap (λ m. applied m ds) (one_past k t l d h.0) ∙ first_stays k t (apply l d) ds h.1

-- ---- at the least address

put_first : (k : ℕ) (t : List ℕ) (l : Lines) → Below k (line_addresses l) → insert_entry nat_cmp l k t ≡ (k, t) ∷ l
put_first k t [] h = refl
put_first k t (x ∷ l) h = ap (λ o. match_ordering o ((k, t) ∷ x ∷ l) ((x.0, t) ∷ l) (x ∷ insert_entry nat_cmp l k t)) h.0

none_taken : (k : ℕ) (l : Lines) → Below k (line_addresses l) → lines_without k l ≡ l
none_taken k [] h = refl
none_taken k (x ∷ l) h =
    ap (λ b. cond (not b) (x ∷ lines_without k l) (lines_without k l)) (ne_eqb x.0 k (λ same. let t : Equal ≡ Less = sym (equal_self k) ∙ ap (nat_cmp k) (sym same) ∙ h.0 in cc))
    ∙ ap (λ m. x ∷ m) (none_taken k l h.1)

first_taken : (k : ℕ) (t : List ℕ) (l : Lines) → Below k (line_addresses l) → lines_without k ((k, t) ∷ l) ≡ l
first_taken k t l h = ap (λ b. cond (not b) ((k, t) ∷ lines_without k l) (lines_without k l)) (eq-eqb k k refl) ∙ none_taken k l h

abbrev Gives : Lines → Lines → Type 0
Gives l m = applied l (differences l m) ≡ m

module _ (k : ℕ) (l m : Lines) (a : Below k (line_addresses l)) (b : Below k (line_addresses m)) where
  old_goes : (t : List ℕ) → Gives l m → Gives ((k, t) ∷ l) m
  old_goes t gives =
      ap (applied ((k, t) ∷ l)) (old_apart k l m a b t)
      ∙ ap (λ n. applied n (differences l m)) (first_taken k t l a)
      ∙ gives

  new_comes : (t : List ℕ) → Gives l m → Gives l ((k, t) ∷ m)
  new_comes t gives =
      ap (applied l) (new_apart k l m a b t)
      ∙ ap (λ n. applied (insert_entry nat_cmp n k t) (differences l m)) (none_taken k l a)
      ∙ ap (λ n. applied n (differences l m)) (put_first k t l a)
      ∙ first_stays k t l (differences l m) (rest_past k l m a b)
      ∙ ap (λ n. (k, t) ∷ n) gives

  both_stand : (t u : List ℕ) → Gives l m → Gives ((k, t) ∷ l) ((k, u) ∷ m)
  both_stand t u gives = ap (applied ((k, t) ∷ l)) (both_apart k l m a b t u) ∙ by (pointwise nat_eq t u) refl
    where
      by : (same : Bool) → pointwise nat_eq t u ≡ same → applied ((k, t) ∷ l) (cond (not same) (difference k (Some t) (Some u) ∷ differences l m) (differences l m)) ≡ (k, u) ∷ m
      by true e = first_stays k t l (differences l m) (rest_past k l m a b) ∙ (λ i. (k, (bytes_eq-Decides t u).0 e i) ∷ gives i)
      by false e =
          ap (λ n. applied (insert_entry nat_cmp n k u) (differences l m)) (first_taken k t l a)
          ∙ ap (λ n. applied n (differences l m)) (put_first k u l a)
          ∙ first_stays k u l (differences l m) (rest_past k l m a b)
          ∙ ap (λ n. (k, u) ∷ n) gives

-- ---- all of them

-- with the first old line, where the differences from the other old lines give any new ones
from_more : (x : ℕ × List ℕ) (l : Lines) → Rise (x ∷ l) → ((m : Lines) → Rise m → Gives l m) → (m : Lines) → Rise m → Gives (x ∷ l) m
unfolding IsStrictlySortedBy
from_more x l rises gives [] h = old_goes x.0 l [] rises.0 tt x.1 (gives [] tt)
from_more x l rises gives (y ∷ m) h =
    elim (nat_cmp x.0 y.0) as (λ o. nat_cmp x.0 y.0 ≡ o → Gives (x ∷ l) (y ∷ m)) [
      | Less ↦ λ e. old_goes x.0 l (y ∷ m) rises.0 (e, below_trans x.0 y.0 (line_addresses m) e h.0) x.1 (gives (y ∷ m) h)
      | Equal ↦ λ e.
          let same : x.0 ≡ y.0 = nat_cmp-IsAntisymmetric x.0 y.0 e in
          ap (λ k. applied (x ∷ l) (differences (x ∷ l) ((k, y.1) ∷ m))) (sym same)
          ∙ both_stand x.0 l m rises.0 (subst (λ k. Below k (line_addresses m)) (sym same) h.0) x.1 y.1 (gives m h.1)
          ∙ ap (λ k. (k, y.1) ∷ m) same
      | Greater ↦ λ e.
          let less = reversed x.0 y.0 e in
          new_comes y.0 (x ∷ l) m (less, below_trans y.0 x.0 (line_addresses l) less rises.0) h.0 y.1 (from_more x l rises gives m h.1)
    ] refl

from_none : (m : Lines) → Rise m → Gives [] m
unfolding IsStrictlySortedBy
from_none [] h = refl
from_none (y ∷ m) h = new_comes y.0 [] m tt h.0 y.1 (from_none m h.1)

pub all_applied : (l m : Lines) → Rise l → Rise m → applied l (differences l m) ≡ m
unfolding IsStrictlySortedBy
all_applied [] m a b = from_none m b
all_applied (x ∷ l) m a b = from_more x l a (λ n h. all_applied l n a.1 h) m b
