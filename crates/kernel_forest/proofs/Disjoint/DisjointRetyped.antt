-- A new object within the unused part of an untyped region keeps live objects disjoint.
use Rattle.std.proofs.Common.{◌≡◌, ℕ, ◌+◌, ◌≤◌, ◌^◌, Bool, true, false, ◌&&◌, ◌||◌, ◌==◌, eqb, nat_le, List, inl, inr, refl, sym, ◌∙◌, ap, subst, arith}
use Rattle.std.specs.List.{AllByRecursion as Each, Contains, list_any, IsDistinct}
use Rattle.std.proofs.Math.Nat.{one-le-pow}
use Rattle.std.proofs.lemmas.Bool.Decides.{nat_tests}
use Rattle.cap_core.specs.declared.profile.ProfileName.{ProfileName}
use Rattle.cap_core.specs.declared.capability.Cap.{Cap}
use Rattle.cap_core.specs.Objects.{is_null, is_untyped, base_of, bits_of, end_of, same_object, contains, are_apart}
use Rattle.kernel_forest.specs.Forest.{Forest, preorder, below_those, descendants, ancestors, below}
use Rattle.kernel_forest.specs.Entries.{Entry, entry, is_at, is_full, cap_at, slots}
use Rattle.kernel_forest.specs.Derivation.{retyped}
use Rattle.kernel_forest.specs.Disjoint.{are_disjoint, AreInLine, IsDisjoint}
use Rattle.kernel_forest.proofs.Trees.Forests.{each-contained, each-contains, ancestors-below, each-below_those_below}
use Rattle.kernel_forest.proofs.Slots.Edits.{entry_at}
use Rattle.kernel_forest.proofs.Disjoint.Disjointness.{are_same, are_disjoint-swap, are_disjoint-self, slot_differs}
use Rattle.kernel_forest.proofs.Slots.Distinct.{once_at}
use Rattle.kernel_forest.proofs.Trees.Above.{each-below_those}
use Rattle.kernel_forest.proofs.Slots.Holding.{cap-entry, none_stands}
use Rattle.kernel_forest.proofs.Slots.Retyped.{contains-retyped}
use Rattle.kernel_forest.proofs.Trees.Lines.{new-below_it, new-below_above, ancestors-above_new, ancestors-descend}
use Rattle.kernel_forest.proofs.Disjoint.DisjointDerived.{disjoint-put, any_contained}

-- ranges

inner : (i j k l m n : ℕ) → (nat_le i j && nat_le m l) ≡ true → (nat_le j k && nat_le n m) ≡ true → (nat_le i k && nat_le n l) ≡ true
inner i j k l m n g h = grind (arith, nat_tests)

pub contains-through : (p : ProfileName) (a b c : Cap) → contains p a b ≡ true → contains p b c ≡ true → contains p a c ≡ true
contains-through p a b c g h = inner (base_of a) (base_of b) (base_of c) (end_of p a) (end_of p b) (end_of p c) g h

apart_within : (p : ProfileName) (a b c : Cap) → contains p b c ≡ true → are_apart p a b ≡ true → are_apart p a c ≡ true
apart_within p a b c g h = step (base_of a) (end_of p a) (base_of b) (end_of p b) (base_of c) (end_of p c) g h
  where
    step : (i m j n k l : ℕ) → (nat_le j k && nat_le l n) ≡ true → (nat_le m j || nat_le n i) ≡ true → (nat_le m k || nat_le l i) ≡ true
    step i m j n k l g h = grind (arith, nat_tests)

apart_below : (p : ProfileName) (a c : Cap) → end_of p a ≤ base_of c → are_apart p a c ≡ true
apart_below p a c h = step (base_of a) (end_of p a) (base_of c) (end_of p c) h
  where
    step : (i m k l : ℕ) → m ≤ k → (nat_le m k || nat_le l i) ≡ true
    step i m k l h = grind (arith, nat_tests)

-- an object has a byte
not_around : (p : ProfileName) (a c : Cap) → are_apart p a c ≡ true → contains p a c ≡ true → ⊥
not_around p a c g h = step (base_of a) (base_of c) (2 ^ bits_of p a) (2 ^ bits_of p c) (one-le-pow (bits_of p a) 2 (omega arith)) (one-le-pow (bits_of p c) 2 (omega arith)) g h
  where
    step : (i j m n : ℕ) → 1 ≤ m → 1 ≤ n → (nat_le (i + m) j || nat_le (j + n) i) ≡ true → (nat_le i j && nat_le (j + n) (i + m)) ≡ true → ⊥
    step i j m n u v g h = grind (arith, nat_tests)

not_within : (p : ProfileName) (a c : Cap) → are_apart p a c ≡ true → contains p c a ≡ true → ⊥
not_within p a c g h = step (base_of a) (base_of c) (2 ^ bits_of p a) (2 ^ bits_of p c) (one-le-pow (bits_of p a) 2 (omega arith)) (one-le-pow (bits_of p c) 2 (omega arith)) g h
  where
    step : (i j m n : ℕ) → 1 ≤ m → 1 ≤ n → (nat_le (i + m) j || nat_le (j + n) i) ≡ true → (nat_le j i && nat_le (i + m) (j + n)) ≡ true → ⊥
    step i j m n u v g h = grind (arith, nat_tests)

from_apart : (a s t : Bool) → a ≡ true → (a || (s || t)) ≡ true
from_apart true s t h = refl
from_apart false s t h = cc

from_first : (a s u v w : Bool) → u ≡ true → v ≡ true → (a || (s || ((u && v) || w))) ≡ true
from_first true s true true w g h = refl
from_first false true true true w g h = refl
from_first false false true true w g h = refl
from_first a s false v w g h = cc
from_first a s true false w g h = cc

-- no object below the parent reaches into the new one's range, and each untyped region above the parent contains the parent's
pub disjoint-retyped : (p : ProfileName) (parent slot : ℕ) (cap : Cap) (f : Forest Entry) → IsDisjoint p f → IsDistinct eqb (slots f) → is_full parent f ≡ true → is_full slot f ≡ false
    → is_untyped (cap_at f parent) ≡ true → contains p (cap_at f parent) cap ≡ true → is_null cap ≡ false
    → ((c : Entry) → Contains (descendants (is_at parent) f) c → end_of p c.cap ≤ base_of cap)
    → ((a : Entry) → Contains (ancestors (is_at parent) f) a → (is_untyped a.cap ≡ true) × (contains p a.cap (cap_at f parent) ≡ true))
    → IsDisjoint p (retyped parent slot cap f)
disjoint-retyped p parent slot cap f d distinct full empty untyped within some ends above =
    disjoint-put p f (retyped parent slot cap f) x (contains-retyped parent slot cap f) d (λ a h. are_disjoint-swap p cap a.cap ∙ with_old a h) (are_disjoint-self p cap some) kept over under
  where
    x : Entry
    x = entry slot cap true

    s : (s : Entry) × Contains (preorder f) s × (s.slot ≡ parent) × (s.cap ≡ cap_at f parent)
    s = entry_at parent f full

    number : (i : ℕ) → (i == i) ≡ true
    number i = grind (arith, nat_tests)

    at_parent : is_at parent s.0 ≡ true
    at_parent = ap (λ i. i == parent) s.2 ∙ number parent

    is_region : is_untyped s.0.cap ≡ true
    is_region = ap is_untyped s.3 ∙ untyped

    around : contains p s.0.cap cap ≡ true
    around = ap (λ a. contains p a cap) s.3 ∙ within

    by_cases : (e : Entry) → (P : Type 0) → Contains (preorder f) e → (are_apart p e.cap cap ≡ true → P) → (is_untyped e.cap ≡ true → contains p e.cap s.0.cap ≡ true → P)
        → (e.slot ≡ parent → P) → P
    by_cases e P h apart over at = go (d.objects e s.0 h s.1)
      where
        inside : contains p s.0.cap e.cap ≡ true → P
        inside v =
            elim (d.lines s.0 e s.1 h is_region v) [
              | inl i ↦ at (i ∙ s.2)
              | inr (inl m) ↦ apart (apart_below p e.cap cap (ends e (let R : ℕ → Type 0 = λ i. Contains (descendants (is_at i) f) e in subst R s.2 m)))
              | inr (inr m) ↦ (let b : (is_untyped e.cap ≡ true) × (contains p e.cap (cap_at f parent) ≡ true) = above e (let R : ℕ → Type 0 = λ i. Contains (ancestors (is_at i) f) e in subst R s.2 m) in
                  over b.0 (ap (contains p e.cap) s.3 ∙ b.1))
            ]

        go : are_disjoint p e.cap s.0.cap ≡ true → P
        go g =
            (elim (are_apart p e.cap s.0.cap) as (λ b. are_apart p e.cap s.0.cap ≡ b → (b || (same_object e.cap s.0.cap || ((is_untyped e.cap && contains p e.cap s.0.cap) || (is_untyped s.0.cap && contains p s.0.cap e.cap)))) ≡ true → P) [
              | true ↦ λ t k. apart (apart_within p e.cap s.0.cap cap around t)
              | false ↦ λ t k. (elim (same_object e.cap s.0.cap) as (λ b. same_object e.cap s.0.cap ≡ b → (b || ((is_untyped e.cap && contains p e.cap s.0.cap) || (is_untyped s.0.cap && contains p s.0.cap e.cap))) ≡ true → P) [
                | true ↦ λ i j. absurd (let n : is_untyped s.0.cap ≡ false = (are_same p e.cap s.0.cap i).second in let r : is_untyped s.0.cap ≡ true = is_region in cc)
                | false ↦ λ i j. (elim (is_untyped e.cap) as (λ b. is_untyped e.cap ≡ b → ((b && contains p e.cap s.0.cap) || (is_untyped s.0.cap && contains p s.0.cap e.cap)) ≡ true → P) [
                  | true ↦ λ u m. (elim (contains p e.cap s.0.cap) as (λ b. contains p e.cap s.0.cap ≡ b → (b || (is_untyped s.0.cap && contains p s.0.cap e.cap)) ≡ true → P) [
                    | true ↦ λ v n. over u v
                    | false ↦ λ v n. inside (second (is_untyped s.0.cap) (contains p s.0.cap e.cap) n)
                  ]) refl m
                  | false ↦ λ u m. inside (second (is_untyped s.0.cap) (contains p s.0.cap e.cap) m)
                ]) refl j
              ]) refl k
            ]) refl g
          where
            second : (b c : Bool) → (b && c) ≡ true → c ≡ true
            second true c h = h
            second false c h = cc

    held : (e : Entry) → Contains (preorder f) e → e.slot ≡ parent → e.cap ≡ s.0.cap
    held e h i = sym (cap-entry f e distinct h) ∙ ap (cap_at f) i ∙ sym s.3

    with_old : (a : Entry) → Contains (preorder f) a → are_disjoint p a.cap cap ≡ true
    with_old a h =
        by_cases a (are_disjoint p a.cap cap ≡ true) h (λ t. from_apart (are_apart p a.cap cap) (same_object a.cap cap) ((is_untyped a.cap && contains p a.cap cap) || (is_untyped cap && contains p cap a.cap)) t)
        (λ u v. region u (contains-through p a.cap s.0.cap cap v around))
        (λ i. region (ap is_untyped (held a h i) ∙ is_region) (ap (λ c. contains p c cap) (held a h i) ∙ around))
      where
        region : is_untyped a.cap ≡ true → contains p a.cap cap ≡ true → are_disjoint p a.cap cap ≡ true
        region u v = from_first (are_apart p a.cap cap) (same_object a.cap cap) (is_untyped a.cap) (contains p a.cap cap) (is_untyped cap && contains p cap a.cap) u v

    kept : (u c : Entry) → Contains (preorder f) u → AreInLine f u c → AreInLine (retyped parent slot cap f) u c
    kept u c h (inl e) = inl e
    kept u c h (inr (inl m)) =
        inr (inl (let P : Entry → Type 0 = Contains (descendants (is_at u.slot) (below (is_at parent) x f)) in
        each-contained P (descendants (is_at u.slot) f) c (each-below_those_below P (is_at parent) (is_at u.slot) x f (slot_differs slot f u empty h) (each-contains (descendants (is_at u.slot) (below (is_at parent) x f)))) m))
    kept u c h (inr (inr m)) =
        inr (inr (let Q : List Entry → Type 0 = λ l. Contains l c in subst Q (sym (ancestors-below (is_at parent) (is_at u.slot) x f (slot_differs slot f u empty h))) m))

    it_below : Contains (descendants (is_at parent) (retyped parent slot cap f)) x
    it_below = new-below_it (Contains (descendants (is_at parent) (below (is_at parent) x f))) (is_at parent) x f full (each-contains (descendants (is_at parent) (below (is_at parent) x f)))

    over : (u : Entry) → Contains (preorder f) u → is_untyped u.cap ≡ true → contains p u.cap cap ≡ true → AreInLine (retyped parent slot cap f) u x
    over u h t v =
        by_cases u (AreInLine (retyped parent slot cap f) u x) h (λ a. absurd (not_around p u.cap cap a v))
        (λ i w. line (d.lines u s.0 h s.1 t w))
        here
      where
        here : u.slot ≡ parent → AreInLine (retyped parent slot cap f) u x
        here i = inr (inl (let R : ℕ → Type 0 = λ n. Contains (descendants (is_at n) (retyped parent slot cap f)) x in subst R (sym i) it_below))

        line : AreInLine f u s.0 → AreInLine (retyped parent slot cap f) u x
        line (inl e) = here (sym e ∙ s.2)
        line (inr (inl m)) =
            inr (inl (new-below_above (Contains (descendants (is_at u.slot) (below (is_at parent) x f))) (is_at parent) (is_at u.slot) x f (once_at parent (preorder f) distinct)
            (any_contained (is_at parent) (descendants (is_at u.slot) f) s.0 m at_parent) (each-contains (descendants (is_at u.slot) (below (is_at parent) x f)))))
        line (inr (inr m)) =
            let i : list_any (is_at u.slot) (descendants (is_at parent) f) ≡ true =
            each-contained (λ (y : Entry). is_at parent y ≡ true → list_any (is_at u.slot) (descendants (is_at parent) f) ≡ true) (ancestors (is_at u.slot) f) s.0 (ancestors-descend (is_at u.slot) (is_at parent) f (once_at parent (preorder f) distinct)) m at_parent in
            let e : (e : Entry) × Contains (descendants (is_at parent) f) e × (e.slot ≡ u.slot) × (e.cap ≡ cap_at (below_those (is_at parent) f) u.slot) = entry_at u.slot (below_those (is_at parent) f) i in
            let n : Contains (preorder f) e.0 = each-contained (Contains (preorder f)) (descendants (is_at parent) f) e.0 (each-below_those (Contains (preorder f)) (is_at parent) f (each-contains (preorder f))) e.1 in
            let c : e.0.cap ≡ u.cap = sym (cap-entry f e.0 distinct n) ∙ ap (cap_at f) e.2 ∙ cap-entry f u distinct h in
            absurd (not_around p u.cap cap (ap (λ a. are_apart p a cap) (sym c) ∙ apart_below p e.0.cap cap (ends e.0 e.1)) v)

    above_new : Each (Contains (ancestors (is_at slot) (retyped parent slot cap f))) (ancestors (is_at parent) f)
        × Each (λ (e : Entry). is_at parent e ≡ true → Contains (ancestors (is_at slot) (retyped parent slot cap f)) e) (preorder f)
    above_new =
        ancestors-above_new (Contains (ancestors (is_at slot) (below (is_at parent) x f))) (is_at parent) (is_at slot) x f (once_at parent (preorder f) distinct) (none_stands slot (preorder f) empty) (number slot)
        (each-contains (ancestors (is_at slot) (below (is_at parent) x f)))

    under : (c : Entry) → Contains (preorder f) c → is_untyped cap ≡ true → contains p cap c.cap ≡ true → AreInLine (retyped parent slot cap f) x c
    under c h t v =
        elim (d.lines s.0 c s.1 h is_region (contains-through p s.0.cap cap c.cap around v)) [
          | inl e ↦ inr (inr (each-contained (λ (y : Entry). is_at parent y ≡ true → Contains (ancestors (is_at slot) (retyped parent slot cap f)) y) (preorder f) c above_new.1 h (ap (λ i. i == parent) (e ∙ s.2) ∙ number parent)))
          | inr (inl m) ↦ absurd (not_within p c.cap cap (apart_below p c.cap cap (ends c (let R : ℕ → Type 0 = λ i. Contains (descendants (is_at i) f) c in subst R s.2 m))) v)
          | inr (inr m) ↦ inr (inr (each-contained (Contains (ancestors (is_at slot) (retyped parent slot cap f))) (ancestors (is_at parent) f) c above_new.0 (let R : ℕ → Type 0 = λ i. Contains (ancestors (is_at i) f) c in subst R s.2 m)))
        ]
