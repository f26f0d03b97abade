-- What is kept where parts are put in order.
use Rattle.std.proofs.Common.{◌≡◌, ℕ, ◌+◌, ◌-◌, ◌≤◌, ◌<◌, inl, inr, Bool, true, false, cond, ◌==◌, nat_lt, List, [], ◌∷◌, ◌++◌, map, length, get_or, drop, append_assoc, Some, None, refl, sym, ap, subst, ◌∙◌, arith}
use Rattle.std.specs.Prelude.{nat_le, not, suc}
use Rattle.std.specs.List.{list_any, list_all, position_or_len}
use Rattle.std.specs.List.Sorted.{IsPermutation, IsNonDecreasingBy}
use Rattle.std.proofs.lemmas.Bool.{false≢true, eqb-true}
use Rattle.std.proofs.lemmas.Bool.Decides.{nat_tests}
use Rattle.std.proofs.lemmas.List.{at_drop_more, at_drop_all}
use Rattle.std.proofs.lemmas.List.Sorted.{Contains-permutation, IsPermutation-sym}
use Rattle.kernel_delete.specs.Members.{In}
use Rattle.kernel_delete.proofs.Members.{both_true, any_of, in_left, in_right, eqb_self}
use Rattle.kernel_delete.proofs.Clearable.{in_contains, contains_in}
use Rattle.query_parts.specs.declared.listed.PartMemory.{PartMemory}
use Rattle.query_parts.specs.declared.listed.PartUse.{PartUse}
use Rattle.query_parts.specs.Listed.{lies_in}
use Rattle.query_parts.specs.Order.{is_numbered}
use Rattle.query_parts.specs.Private.Search.{memory_in, AreSound}
use Rattle.query_parts.specs.Private.Arranging.{goes_on, joined_with, joined_from, joined_all, labels_from, number_in, number_of, IsMemoryTold}
use Rattle.query_parts.proofs.Lists.{in_mapped, from_mapped, and_true}
use Rattle.query_parts.proofs.Joined.{AreApart, IsChain, all_rise, all_cover, all_long, chain_adjacent, chain_numbered}
use Rattle.query_parts.proofs.Numbered.{are_numbered}

-- ---- stretches that are joined

abbrev From : PartMemory → ℕ → List PartMemory → Type 0
From m address ns = (n : PartMemory) × (In n ns × ((n.part ≡ m.part) × (lies_in n address ≡ true)))

pub from_joined : (first : PartMemory) (ns : List PartMemory) (m : PartMemory) → In m (joined_from first ns) → (address : ℕ) → m.first ≤ address → address ≤ m.last →
    From m address (first ∷ ns)
from_joined first [] m i address low high = elim i [
  | inl same ↦ (first, (inl refl, (ap (λ (x : PartMemory). x.part) (sym same), subst (λ (x : PartMemory). lies_in x address ≡ true) same (lies m low high))))
  | inr none ↦ absurd none
]
  where
    lies : (x : PartMemory) → x.first ≤ address → address ≤ x.last → lies_in x address ≡ true
    lies x a b = grind (arith, nat_tests)
from_joined first (n ∷ ns) m i address low high =
    by (goes_on first n) refl i (λ j. from_joined (joined_with first n) ns m j address low high) (λ j. from_joined n ns m j address low high)
  where
    lies : (x : PartMemory) → x.first ≤ address → address ≤ x.last → lies_in x address ≡ true
    lies x a b = grind (arith, nat_tests)

    split : goes_on first n ≡ true → lies_in (joined_with first n) address ≡ true → (b : Bool) → nat_le address first.last ≡ b → (c : Bool) → nat_lt first.last n.last ≡ c →
        nat_le first.first address ≡ true → nat_le address (cond c n.last first.last) ≡ true → From first address (first ∷ (n ∷ ns))
    split going h true inside c larger low high = (first, (inl refl, (refl, and_true _ _ low inside)))
    split going h false outside true larger low high =
        let both = both_true (first.part == n.part) _ going in
        (n, (inr (inl refl), (sym (eqb-true first.part n.part both.0), and_true _ _ (at both.1) high)))
      where
        at : nat_le n.first (first.last + 1) ≡ true → nat_le n.first address ≡ true
        at touch = grind (arith, nat_tests)
    split going h false outside false larger low high = absurd (false≢true (sym outside ∙ high))

    widen : (k : PartMemory) → From k address (joined_with first n ∷ ns) → goes_on first n ≡ true → From k address (first ∷ (n ∷ ns))
    widen k w going = elim w.1.0 [
      | inl same ↦
          let at : lies_in (joined_with first n) address ≡ true = subst (λ (x : PartMemory). lies_in x address ≡ true) same w.1.1.1 in
          let part_is : first.part ≡ k.part = ap (λ (x : PartMemory). x.part) (sym same) ∙ w.1.1.0 in
          let both = both_true (nat_le first.first address) _ at in
          let s = split going at _ refl _ refl both.0 both.1 in
          (s.0, (s.1.0, (s.1.1.0 ∙ part_is, s.1.1.1)))
      | inr more ↦ (w.0, (inr (inr more), w.1.1))
    ]

    by : (b : Bool) → goes_on first n ≡ b → In m (cond b (joined_from (joined_with first n) ns) (first ∷ joined_from n ns)) →
        (In m (joined_from (joined_with first n) ns) → From m address (joined_with first n ∷ ns)) → (In m (joined_from n ns) → From m address (n ∷ ns)) →
        From m address (first ∷ (n ∷ ns))
    by true going j one two = widen m (one j) going
    by false apart (inl same) one two = (first, (inl refl, (ap (λ (x : PartMemory). x.part) (sym same), subst (λ (x : PartMemory). lies_in x address ≡ true) same (lies m low high))))
    by false apart (inr more) one two = let w = two more in (w.0, (inr w.1.0, w.1.1))

-- ---- labels and numbers

labels_keep : (ms : List PartMemory) (seen : List ℕ) (k : ℕ) → In k seen → In k (labels_from seen ms)
labels_keep [] seen k i = i
labels_keep (m ∷ ms) seen k i = by (list_any (λ label. label == m.part) seen) (labels_keep ms seen k) (labels_keep ms (seen ++ m.part ∷ []) k)
  where
    by : (b : Bool) → (In k seen → In k (labels_from seen ms)) → (In k (seen ++ m.part ∷ []) → In k (labels_from (seen ++ m.part ∷ []) ms)) →
        In k (labels_from (cond b seen (seen ++ m.part ∷ [])) ms)
    by true one two = one i
    by false one two = two (in_left k seen _ i)

pub labels_have : (ms : List PartMemory) (seen : List ℕ) (m : PartMemory) → In m ms → In m.part (labels_from seen ms)
labels_have [] seen m i = absurd i
labels_have (x ∷ xs) seen m i = by (list_any (λ label. label == x.part) seen) refl i
    (λ s j. labels_have xs s m j) (λ s j. labels_keep xs s m.part j)
  where
    by : (b : Bool) → list_any (λ label. label == x.part) seen ≡ b → In m (x ∷ xs) → ((s : List ℕ) → In m xs → In m.part (labels_from s xs)) →
        ((s : List ℕ) → In m.part s → In m.part (labels_from s xs)) → In m.part (labels_from (cond b seen (seen ++ x.part ∷ [])) xs)
    by b is (inr more) later now = later _ more
    by true is (inl same) later now =
        let g = any_of (λ label. label == x.part) seen is in
        now seen (subst (λ k. In k seen) (eqb-true g.0 x.part g.1.1 ∙ ap (λ (y : PartMemory). y.part) (sym same)) g.1.0)
    by false is (inl same) later now = now _ (in_right m.part seen _ (inl (ap (λ (y : PartMemory). y.part) same)))

place_at : (labels : List ℕ) (part : ℕ) → In part labels →
    (position_or_len (λ label. label == part) labels < length labels) × (get_or labels (position_or_len (λ label. label == part) labels) 0 ≡ part)
place_at [] part i = absurd i
place_at (l ∷ ls) part i = by (l == part) refl i (place_at ls part)
  where
    one_more : (n : ℕ) → 1 + n ≡ suc n
    one_more n = omega arith

    by : (b : Bool) → l == part ≡ b → In part (l ∷ ls) →
        (In part ls → (position_or_len (λ label. label == part) ls < length ls) × (get_or ls (position_or_len (λ label. label == part) ls) 0 ≡ part)) →
        (cond (not b) (1 + position_or_len (λ label. label == part) ls) 0 < length (l ∷ ls))
        × (get_or (l ∷ ls) (cond (not b) (1 + position_or_len (λ label. label == part) ls) 0) 0 ≡ part)
    by true is i rest = (omega arith, eqb-true l part is)
    by false is (inl same) rest = absurd (false≢true (sym is ∙ ap (λ n. n == part) (sym same) ∙ eqb_self part))
    by false is (inr more) rest = let r = rest more in (omega (arith, r.0), ap (λ n. get_or (l ∷ ls) n 0) (one_more (position_or_len (λ label. label == part) ls)) ∙ r.1)

pub number_is : (labels : List ℕ) (part : ℕ) → In part labels → get_or labels (number_of labels part - 1) 0 ≡ part
number_is labels part i =
    let at = place_at labels part i in
    let low : nat_lt (position_or_len (λ label. label == part) labels) (length labels) ≡ true = grind (arith, nat_tests, at.0) in
    ap (λ b. get_or labels (number_in (cond b (Some (position_or_len (λ label. label == part) labels)) None) - 1) 0) low
    ∙ ap (λ n. get_or labels n 0) (one_less (position_or_len (λ label. label == part) labels))
    ∙ at.1
  where
    one_less : (n : ℕ) → n + 1 - 1 ≡ n
    one_less n = omega arith

-- ---- the whole

from_all : (sorted : List PartMemory) (m : PartMemory) → In m (joined_all sorted) → (address : ℕ) → m.first ≤ address → address ≤ m.last → From m address sorted
from_all [] m i address low high = absurd i
from_all (n ∷ ns) m i address low high = from_joined n ns m i address low high

module _ (memory : List PartMemory) (uses : List PartUse) (S : AreSound memory uses) (sorted joined : List PartMemory) (labels : List ℕ) (numbered : List PartMemory)
    (moved : IsPermutation memory sorted) (rising : IsNonDecreasingBy (λ (x : PartMemory). x.first) sorted) (joins : joined ≡ joined_all sorted)
    (labelled : labels ≡ labels_from [] joined) (memory_is : numbered ≡ map (memory_in (number_of labels)) joined) where
  back : (n : PartMemory) → In n sorted → In n memory
  back n i = contains_in memory n (Contains-permutation sorted memory n (IsPermutation-sym memory sorted moved) (in_contains sorted n i))

  forth : (n : PartMemory) → In n memory → In n sorted
  forth n i = contains_in sorted n (Contains-permutation memory sorted n moved (in_contains memory n i))

  apart : AreApart sorted
  apart = record { stretches = λ m i. S.stretches m (back m i); apart = λ m n i j. S.apart m n (back m i) (back n j) }

  chain : IsChain joined
  chain = subst IsChain (sym joins) (all_rise sorted apart rising)

  long : (m : PartMemory) → In m joined → m.first ≤ m.last
  long m i = all_long sorted apart rising m (subst (λ (l : List PartMemory). In m l) joins i)

  covered : (n : PartMemory) → In n memory → (m : PartMemory) × (In m joined × ((m.part ≡ n.part) × ((m.first ≤ n.first) × (n.last ≤ m.last))))
  covered n i = let w = all_cover sorted apart rising n (forth n i) in (w.0, (subst (λ (l : List PartMemory). In w.0 l) (sym joins) w.1.0, w.1.1))

  abbrev label : ℕ → ℕ
  label k = get_or labels (k - 1) 0

  labelled_all : (m : PartMemory) → In m joined → In m.part labels
  labelled_all m i = subst (λ (l : List ℕ). In m.part l) (sym labelled) (labels_have joined [] m i)

  label_is : (m : PartMemory) → In m joined → label (number_of labels m.part) ≡ m.part
  label_is m i = number_is labels m.part (labelled_all m i)

  joined_at : (m : PartMemory) → In m numbered → (n : PartMemory) × (In n joined × (m ≡ memory_in (number_of labels) n))
  joined_at m i = from_mapped (memory_in (number_of labels)) joined m (subst (λ (l : List PartMemory). In m l) memory_is i)

  numbered_at : (n : PartMemory) → In n joined → In (memory_in (number_of labels) n) numbered
  numbered_at n i = subst (λ (l : List PartMemory). In (memory_in (number_of labels) n) l) (sym memory_is) (in_mapped (memory_in (number_of labels)) n joined i)

  told_from : (m : PartMemory) → In m numbered → (address : ℕ) → m.first ≤ address → address ≤ m.last →
      (n : PartMemory) × (In n memory × ((n.part ≡ label m.part) × ((m.part ≡ number_of labels n.part) × (lies_in n address ≡ true))))
  told_from m i address low high =
      let w = joined_at m i in
      let o = from_all sorted w.0 (subst (λ (l : List PartMemory). In w.0 l) joins w.1.0) address
      (subst (λ n. n ≤ address) (ap (λ (x : PartMemory). x.first) w.1.1) low) (subst (λ n. address ≤ n) (ap (λ (x : PartMemory). x.last) w.1.1) high) in
      let part_is : m.part ≡ number_of labels w.0.part = ap (λ (x : PartMemory). x.part) w.1.1 in
      (o.0, (back o.0 o.1.0, (o.1.1.0 ∙ sym (label_is w.0 w.1.0) ∙ ap label (sym part_is), (part_is ∙ ap (number_of labels) (sym o.1.1.0), o.1.1.1))))

  pub memory_told : IsMemoryTold memory numbered (number_of labels) label
  memory_told = record {
    memory_from = told_from;
    memory_to = λ n i.
        let w = covered n i in
        (memory_in (number_of labels) w.0, (numbered_at w.0 w.1.0, (ap (number_of labels) w.1.1.0, w.1.1.1)));
    labelled = λ n i. let w = covered n i in subst (λ k. label (number_of labels k) ≡ k) w.1.1.0 (label_is w.0 w.1.0);
    long = λ m i. let w = joined_at m i in subst (λ (x : PartMemory). x.first ≤ x.last) (sym w.1.1) (long w.0 w.1.0);
    rising = chain_adjacent numbered (subst IsChain (sym memory_is) (chain_numbered (number_of labels) joined same_part chain));
    numbered = subst (λ (l : List PartMemory). list_all (is_numbered l) l ≡ true) (sym memory_is) (are_numbered joined long chain labels labelled);
  }
    where
      same_part : (x y : PartMemory) → In x joined → In y joined → number_of labels x.part ≡ number_of labels y.part → x.part ≡ y.part
      same_part x y i j same = sym (label_is x i) ∙ ap label same ∙ label_is y j

-- ---- steps of the loops

pub label_known : (memory : List PartMemory) (seen all : List ℕ) (i : ℕ) (d : PartMemory) → i < length memory → labels_from seen (drop i memory) ≡ all →
    list_any (λ label. label == (get_or memory i d).part) seen ≡ true → labels_from seen (drop (i + 1) memory) ≡ all
label_known memory seen all i d low h is =
    sym (ap (λ b. labels_from (cond b seen (seen ++ (get_or memory i d).part ∷ [])) (drop (i + 1) memory)) is)
    ∙ sym (at_drop_more (labels_from seen) memory i d low) ∙ h

pub label_new : (memory : List PartMemory) (seen all : List ℕ) (i : ℕ) (d : PartMemory) → i < length memory → labels_from seen (drop i memory) ≡ all →
    list_any (λ label. label == (get_or memory i d).part) seen ≡ false → labels_from (seen ++ (get_or memory i d).part ∷ []) (drop (i + 1) memory) ≡ all
label_new memory seen all i d low h is =
    sym (ap (λ b. labels_from (cond b seen (seen ++ (get_or memory i d).part ∷ [])) (drop (i + 1) memory)) is)
    ∙ sym (at_drop_more (labels_from seen) memory i d low) ∙ h

pub joining_on : (others joined all : List PartMemory) (last : PartMemory) (i : ℕ) (d : PartMemory) → i < length others → joined ++ joined_from last (drop i others) ≡ all →
    goes_on last (get_or others i d) ≡ true → joined ++ joined_from (joined_with last (get_or others i d)) (drop (i + 1) others) ≡ all
joining_on others joined all last i d low h is =
    ap (λ (l : List PartMemory). joined ++ l)
    (sym (ap (λ b. cond b (joined_from (joined_with last (get_or others i d)) (drop (i + 1) others)) (last ∷ joined_from (get_or others i d) (drop (i + 1) others))) is)
    ∙ sym (at_drop_more (joined_from last) others i d low)) ∙ h

pub joining_next : (others joined all : List PartMemory) (last : PartMemory) (i : ℕ) (d : PartMemory) → i < length others → joined ++ joined_from last (drop i others) ≡ all →
    goes_on last (get_or others i d) ≡ false → (joined ++ last ∷ []) ++ joined_from (get_or others i d) (drop (i + 1) others) ≡ all
joining_next others joined all last i d low h is =
    append_assoc joined (last ∷ []) (joined_from (get_or others i d) (drop (i + 1) others))
    ∙ ap (λ (l : List PartMemory). joined ++ l)
    (sym (ap (λ b. cond b (joined_from (joined_with last (get_or others i d)) (drop (i + 1) others)) (last ∷ joined_from (get_or others i d) (drop (i + 1) others))) is)
    ∙ sym (at_drop_more (joined_from last) others i d low)) ∙ h

pub joining_end : (others joined all : List PartMemory) (last : PartMemory) (i : ℕ) → length others ≤ i → joined ++ joined_from last (drop i others) ≡ all →
    joined ++ last ∷ [] ≡ all
joining_end others joined all last i done h = ap (λ (l : List PartMemory). joined ++ l) (sym (at_drop_all (joined_from last) others i done)) ∙ h
