-- Stretches in the order of their first addresses, where those of one part that touch are joined: they rise and do not touch,
-- and each that was there lies in one.
use Rattle.std.proofs.Common.{◌≡◌, ℕ, ◌+◌, ◌≤◌, ◌<◌, ◌⊎◌, inl, inr, Bool, true, false, cond, ◌==◌, ◌&&◌, nat_lt, List, [], ◌∷◌, map, length, get_or, refl, sym, ap, subst, ◌∙◌, arith}
use Rattle.std.specs.Prelude.{◌||◌, nat_le, not, suc, zero, ⊤}
use Rattle.std.specs.List.{AllAdjacentBelow}
use Rattle.std.specs.List.Sorted.{IsNonDecreasingBy}
use Rattle.std.proofs.lemmas.Bool.{false≢true, eqb-true, eq-eqb}
use Rattle.std.proofs.lemmas.Bool.Decides.{nat_tests}
use Rattle.kernel_delete.specs.Members.{In}
use Rattle.kernel_delete.proofs.Members.{both_true}
use Rattle.query_parts.specs.declared.listed.PartMemory.{PartMemory}
use Rattle.query_parts.specs.Listed.{lies_in}
use Rattle.query_parts.specs.Order.{lies_behind}
use Rattle.query_parts.specs.Private.Search.{memory_in}
use Rattle.query_parts.specs.Private.Arranging.{goes_on, joined_with, joined_from, joined_all}
use Rattle.query_parts.proofs.Lists.{and_true}

-- each stretch has an address, and stretches of two parts have none in common
pub record AreApart (ms : List PartMemory) : Type 0 where
  pub stretches : (m : PartMemory) → In m ms → m.first ≤ m.last
  pub apart : (m n : PartMemory) → In m ms → In n ms → (address : ℕ) → lies_in m address ≡ true → lies_in n address ≡ true → m.part ≡ n.part

-- the first addresses rise, from one on
abbrev pub AreFrom : ℕ → List PartMemory → Type 0
AreFrom low [] = ⊤
AreFrom low (m ∷ ms) = (low ≤ m.first) × AreFrom m.first ms

-- each stretch lies behind the one before it
abbrev pub LieBehind : PartMemory → List PartMemory → Type 0
LieBehind m [] = ⊤
LieBehind m (n ∷ ns) = (lies_behind m n ≡ true) × LieBehind n ns

abbrev pub IsChain : List PartMemory → Type 0
IsChain [] = ⊤
IsChain (m ∷ ms) = LieBehind m ms

pub rest_chain : (m : PartMemory) (ms : List PartMemory) → LieBehind m ms → IsChain ms
rest_chain m [] behind = tt
rest_chain m (n ∷ ns) behind = behind.1

-- stretches that rise and do not touch, the first of which begins as another does
record IsRisen (m : PartMemory) (l : List PartMemory) : Type 0 where
  pub head : PartMemory
  pub rest : List PartMemory
  pub is : l ≡ head ∷ rest
  pub part_is : head.part ≡ m.part
  pub first_is : head.first ≡ m.first
  pub behind : LieBehind head rest

-- ---- where two are joined

-- an address of both is one of the first, or of the next
split_joined : (first n : PartMemory) → goes_on first n ≡ true → (address : ℕ) → lies_in (joined_with first n) address ≡ true →
    (lies_in first address ≡ true) ⊎ (lies_in n address ≡ true)
split_joined first n going address at =
    let both = both_true (nat_le first.first address) _ at in
    let touch = both_true (first.part == n.part) _ going in
    by touch.1 (nat_le address first.last) refl (nat_lt first.last n.last) refl both.0 both.1
  where
    by : nat_le n.first (first.last + 1) ≡ true → (b : Bool) → nat_le address first.last ≡ b → (c : Bool) → nat_lt first.last n.last ≡ c →
        nat_le first.first address ≡ true → nat_le address (cond c n.last first.last) ≡ true → (lies_in first address ≡ true) ⊎ (lies_in n address ≡ true)
    by touch true inside c larger low high = inl (and_true _ _ low inside)
    by touch false outside true larger low high = inr (and_true _ _ (grind (arith, nat_tests, touch, outside)) high)
    by touch false outside false larger low high = absurd (false≢true (sym outside ∙ high))

module _ (first n : PartMemory) (ns : List PartMemory) (going : goes_on first n ≡ true) (A : AreApart (first ∷ (n ∷ ns))) where
  abbrev Origin : PartMemory → ℕ → Type 0
  Origin m address = (x : PartMemory) × (In x (first ∷ (n ∷ ns)) × ((x.part ≡ m.part) × (lies_in x address ≡ true)))

  same_part : first.part ≡ n.part
  same_part = eqb-true first.part n.part (both_true (first.part == n.part) _ going).0

  origin : (m : PartMemory) → In m (joined_with first n ∷ ns) → (address : ℕ) → lies_in m address ≡ true → Origin m address
  origin m (inl same) address at =
      let part_is : first.part ≡ m.part = ap (λ (x : PartMemory). x.part) (sym same) in
      elim (split_joined first n going address (subst (λ (x : PartMemory). lies_in x address ≡ true) same at)) [
        | inl here ↦ (first, (inl refl, (part_is, here)))
        | inr there ↦ (n, (inr (inl refl), (sym same_part ∙ part_is, there)))
      ]
  origin m (inr more) address at = (m, (inr (inr more), (refl, at)))

  long : (c : Bool) → nat_lt first.last n.last ≡ c → first.first ≤ cond c n.last first.last
  long true larger = let had = A.stretches first (inl refl) in grind (arith, nat_tests)
  long false larger = A.stretches first (inl refl)

  joined_apart : AreApart (joined_with first n ∷ ns)
  joined_apart = record {
    stretches = stretches;
    apart = λ m k i j address a b.
        let x = origin m i address a in
        let y = origin k j address b in
        sym x.1.1.0 ∙ A.apart x.0 y.0 x.1.0 y.1.0 address x.1.1.1 y.1.1.1 ∙ y.1.1.0;
  }
    where
      stretches : (m : PartMemory) → In m (joined_with first n ∷ ns) → m.first ≤ m.last
      stretches m (inl same) = subst (λ (x : PartMemory). x.first ≤ x.last) (sym same) (long _ refl)
      stretches m (inr more) = A.stretches m (inr (inr more))

rest_apart : (first : PartMemory) (ns : List PartMemory) → AreApart (first ∷ ns) → AreApart ns
rest_apart first ns A = record {
  stretches = λ m i. A.stretches m (inr i);
  apart = λ m k i j. A.apart m k (inr i) (inr j);
}

from_less : (low high : ℕ) (ns : List PartMemory) → low ≤ high → AreFrom high ns → AreFrom low ns
from_less low high [] h from = tt
from_less low high (n ∷ ns) h from = (omega (arith, h, from.0), from.1)

-- the next stretch lies behind, where it does not go on
next_behind : (first n : PartMemory) (ns : List PartMemory) → AreApart (first ∷ (n ∷ ns)) → first.first ≤ n.first → goes_on first n ≡ false →
    (part first' : ℕ) → part ≡ n.part → first' ≡ n.first →
    nat_lt first.last first' && (not (first.part == part) || not (first' == first.last + 1)) ≡ true
next_behind first n ns A low apart part first' part_is first_is =
    subst (λ k. nat_lt first.last first' && (not (first.part == k) || not (first' == first.last + 1)) ≡ true) (sym part_is)
    (subst (λ f. nat_lt first.last f && (not (first.part == n.part) || not (f == first.last + 1)) ≡ true) (sym first_is)
    (by (first.part == n.part) refl apart (nat_lt first.last n.first) refl))
  where
    lies : (x : PartMemory) (address : ℕ) → x.first ≤ address → address ≤ x.last → lies_in x address ≡ true
    lies x address a b = grind (arith, nat_tests)

    far : nat_le n.first (first.last + 1) ≡ false → nat_lt first.last n.first && not (n.first == first.last + 1) ≡ true
    far h = grind (arith, nat_tests)

    both_have : nat_lt first.last n.first ≡ false → first.part ≡ n.part
    both_have h =
        let stretch = A.stretches n (inr (inl refl)) in
        A.apart first n (inl refl) (inr (inl refl)) n.first (lies first n.first low (grind (arith, nat_tests))) (lies n n.first (omega arith) stretch)

    by : (b : Bool) → first.part == n.part ≡ b → b && nat_le n.first (first.last + 1) ≡ false → (c : Bool) → nat_lt first.last n.first ≡ c →
        c && (not b || not (n.first == first.last + 1)) ≡ true
    by true same h c before = sym (ap (λ d. d && not (n.first == first.last + 1)) before) ∙ far h
    by false other h true before = refl
    by false other h false before = absurd (false≢true (sym other ∙ eq-eqb first.part n.part (both_have before)))

joined_rise : (first : PartMemory) (ns : List PartMemory) → AreApart (first ∷ ns) → AreFrom first.first ns → IsRisen first (joined_from first ns)
joined_rise first [] A from = record { head = first; rest = []; is = refl; part_is = refl; first_is = refl; behind = tt }
joined_rise first (n ∷ ns) A from =
    by (goes_on first n) refl
    (λ going. joined_rise (joined_with first n) ns (joined_apart first n ns going A) (from_less first.first n.first ns from.0 from.1))
    (joined_rise n ns (rest_apart first (n ∷ ns) A) from.1)
  where
    by : (b : Bool) → goes_on first n ≡ b → (goes_on first n ≡ true → IsRisen (joined_with first n) (joined_from (joined_with first n) ns)) →
        IsRisen n (joined_from n ns) → IsRisen first (cond b (joined_from (joined_with first n) ns) (first ∷ joined_from n ns))
    by true going one two =
        let R = one going in
        record { head = R.head; rest = R.rest; is = R.is; part_is = R.part_is; first_is = R.first_is; behind = R.behind }
    by false apart one two = record {
      head = first;
      rest = joined_from n ns;
      is = refl;
      part_is = refl;
      first_is = refl;
      behind = subst (LieBehind first) (sym two.is)
          (next_behind first n ns A from.0 apart two.head.part two.head.first two.part_is two.first_is, two.behind);
    }

-- each stretch that was there lies in one
joined_covers : (first : PartMemory) (ns : List PartMemory) → AreFrom first.first ns → (n : PartMemory) → In n (first ∷ ns) →
    (m : PartMemory) × (In m (joined_from first ns) × ((m.part ≡ n.part) × ((m.first ≤ n.first) × (n.last ≤ m.last))))
joined_covers first [] from n (inl same) =
    (first, (inl refl, (ap (λ (x : PartMemory). x.part) (sym same), subst (λ (x : PartMemory). (first.first ≤ x.first) × (x.last ≤ first.last)) (sym same) (omega arith, omega arith))))
joined_covers first [] from n (inr none) = absurd none
joined_covers first (k ∷ ks) from n i =
    by (goes_on first k) refl i
    (joined_covers (joined_with first k) ks (from_less first.first k.first ks from.0 from.1))
    (joined_covers k ks from.1)
  where
    Covers : PartMemory → List PartMemory → Type 0
    Covers n l = (m : PartMemory) × (In m l × ((m.part ≡ n.part) × ((m.first ≤ n.first) × (n.last ≤ m.last))))

    longer : (c : Bool) → nat_lt first.last k.last ≡ c → (first.last ≤ cond c k.last first.last) × (k.last ≤ cond c k.last first.last)
    longer true is = (grind (arith, nat_tests), omega arith)
    longer false is = (omega arith, grind (arith, nat_tests))

    wider : (l : List PartMemory) → Covers (joined_with first k) l → (x : PartMemory) → first.part ≡ x.part → first.first ≤ x.first →
        x.last ≤ cond (nat_lt first.last k.last) k.last first.last → Covers x l
    wider l w x part_is low high = (w.0, (w.1.0, (w.1.1.0 ∙ part_is, (omega (arith, w.1.1.1.0, low), omega (arith, w.1.1.1.1, high)))))

    by : (b : Bool) → goes_on first k ≡ b → In n (first ∷ (k ∷ ks)) →
        ((n : PartMemory) → In n (joined_with first k ∷ ks) → Covers n (joined_from (joined_with first k) ks)) →
        ((n : PartMemory) → In n (k ∷ ks) → Covers n (joined_from k ks)) →
        Covers n (cond b (joined_from (joined_with first k) ks) (first ∷ joined_from k ks))
    by true going (inl same) one two =
        subst (λ (x : PartMemory). Covers x (joined_from (joined_with first k) ks)) (sym same)
        (wider _ (one (joined_with first k) (inl refl)) first refl (omega arith) (longer _ refl).0)
    by true going (inr (inl same)) one two =
        subst (λ (x : PartMemory). Covers x (joined_from (joined_with first k) ks)) (sym same)
        (wider _ (one (joined_with first k) (inl refl)) k (eqb-true first.part k.part (both_true (first.part == k.part) _ going).0) from.0 (longer _ refl).1)
    by true going (inr (inr more)) one two = one n (inr more)
    by false apart (inl same) one two =
        (first, (inl refl, (ap (λ (x : PartMemory). x.part) (sym same), subst (λ (x : PartMemory). (first.first ≤ x.first) × (x.last ≤ first.last)) (sym same) (omega arith, omega arith))))
    by false apart (inr more) one two = let w = two n more in (w.0, (inr w.1.0, w.1.1))

-- each stretch has an address
joined_long : (first : PartMemory) (ns : List PartMemory) → AreApart (first ∷ ns) → (m : PartMemory) → In m (joined_from first ns) → m.first ≤ m.last
joined_long first [] A m i = A.stretches m i
joined_long first (n ∷ ns) A m i =
    by (goes_on first n) refl i (λ going. joined_long (joined_with first n) ns (joined_apart first n ns going A) m)
    (joined_long n ns (rest_apart first (n ∷ ns) A) m)
  where
    by : (b : Bool) → goes_on first n ≡ b → In m (cond b (joined_from (joined_with first n) ns) (first ∷ joined_from n ns)) →
        (goes_on first n ≡ true → In m (joined_from (joined_with first n) ns) → m.first ≤ m.last) → (In m (joined_from n ns) → m.first ≤ m.last) →
        m.first ≤ m.last
    by true going j one two = one going j
    by false apart (inl same) one two = A.stretches m (inl same)
    by false apart (inr more) one two = two more

-- ---- the whole

-- what a sort by the first address gives
from_sorted : (m : PartMemory) (ms : List PartMemory) → IsNonDecreasingBy (λ (x : PartMemory). x.first) (m ∷ ms) → AreFrom m.first ms
from_sorted m [] rising = tt
from_sorted m (n ∷ ns) rising = (rising 0 1 m (omega arith) (omega arith), from_sorted n ns (λ i j d low high. more i j d low high))
  where
    more : (i j : ℕ) (d : PartMemory) → i ≤ j → j < length (n ∷ ns) → (get_or (n ∷ ns) i d).first ≤ (get_or (n ∷ ns) j d).first
    more i j d low high = rising (suc i) (suc j) d (omega arith) (omega arith)

module _ (sorted : List PartMemory) (A : AreApart sorted) (rising : IsNonDecreasingBy (λ (x : PartMemory). x.first) sorted) where
  pub all_rise : IsChain (joined_all sorted)
  all_rise = by sorted A rising
    where
      by : (l : List PartMemory) → AreApart l → IsNonDecreasingBy (λ (x : PartMemory). x.first) l → IsChain (joined_all l)
      by [] A rising = tt
      by (m ∷ ms) A rising = let R = joined_rise m ms A (from_sorted m ms rising) in subst IsChain (sym R.is) R.behind

  pub all_cover : (n : PartMemory) → In n sorted → (m : PartMemory) × (In m (joined_all sorted) × ((m.part ≡ n.part) × ((m.first ≤ n.first) × (n.last ≤ m.last))))
  all_cover = by sorted rising
    where
      by : (l : List PartMemory) → IsNonDecreasingBy (λ (x : PartMemory). x.first) l → (n : PartMemory) → In n l →
          (m : PartMemory) × (In m (joined_all l) × ((m.part ≡ n.part) × ((m.first ≤ n.first) × (n.last ≤ m.last))))
      by [] rising n i = absurd i
      by (m ∷ ms) rising n i = joined_covers m ms (from_sorted m ms rising) n i

  pub all_long : (m : PartMemory) → In m (joined_all sorted) → m.first ≤ m.last
  all_long = by sorted A
    where
      by : (l : List PartMemory) → AreApart l → (m : PartMemory) → In m (joined_all l) → m.first ≤ m.last
      by [] A m i = absurd i
      by (n ∷ ns) A m i = joined_long n ns A m i

-- by recursion, and by places
behind_adjacent : (m : PartMemory) (l : List PartMemory) → LieBehind m l → AllAdjacentBelow (λ m n. lies_behind m n ≡ true) (m ∷ l) (length (m ∷ l))
behind_adjacent m [] behind k d low = absurd (omega (arith, low))
behind_adjacent m (n ∷ ns) behind zero d low = behind.0
behind_adjacent m (n ∷ ns) behind (suc k) d low =
    let next : suc k + 1 ≡ suc (k + 1) = omega arith in
    subst (λ j. lies_behind (get_or (m ∷ (n ∷ ns)) (suc k) d) (get_or (m ∷ (n ∷ ns)) j d) ≡ true) (sym next)
    (behind_adjacent n ns behind.1 k d (omega (arith, low)))

pub chain_adjacent : (l : List PartMemory) → IsChain l → AllAdjacentBelow (λ m n. lies_behind m n ≡ true) l (length l)
chain_adjacent [] chain k d low = absurd (omega (arith, low))
chain_adjacent (m ∷ ms) chain k d low = behind_adjacent m ms chain k d low

-- they keep it by other numbers, where different parts have different numbers
behind_numbered : (into : ℕ → ℕ) (m : PartMemory) (l : List PartMemory) →
    ((x y : PartMemory) → In x (m ∷ l) → In y (m ∷ l) → into x.part ≡ into y.part → x.part ≡ y.part) → LieBehind m l →
    LieBehind (memory_in into m) (map (memory_in into) l)
behind_numbered into m [] apart behind = tt
behind_numbered into m (n ∷ ns) apart behind = (
  by (m.part == n.part) refl (into m.part == into n.part) refl behind.0,
  behind_numbered into n ns (λ x y i j. apart x y (inr i) (inr j)) behind.1,
)
  where
    by : (b : Bool) → m.part == n.part ≡ b → (c : Bool) → into m.part == into n.part ≡ c → nat_lt m.last n.first && (not b || not (n.first == m.last + 1)) ≡ true →
        nat_lt m.last n.first && (not c || not (n.first == m.last + 1)) ≡ true
    by true same true s h = h
    by true same false s h = and_true _ _ (both_true (nat_lt m.last n.first) _ h).0 refl
    by false other true s h =
        let same = apart m n (inl refl) (inr (inl refl)) (eqb-true (into m.part) (into n.part) s) in
        absurd (false≢true (sym other ∙ eq-eqb m.part n.part same))
    by false other false s h = h

pub chain_numbered : (into : ℕ → ℕ) (l : List PartMemory) → ((x y : PartMemory) → In x l → In y l → into x.part ≡ into y.part → x.part ≡ y.part) → IsChain l →
    IsChain (map (memory_in into) l)
chain_numbered into [] apart chain = tt
chain_numbered into (m ∷ ms) apart chain = behind_numbered into m ms apart chain
