-- Each call of the tests' sequences leaves a forest of the same kind.
use Rattle.std.proofs.Common.{◌≡◌, ◌≢◌, ℕ, ◌+◌, ◌-◌, ◌*◌, ◌^◌, ◌<◌, ◌≤◌, Bool, true, false, cond, not, ◌||◌, ◌==◌, nat_le, eqb, List, [], ◌∷◌, None, Some, refl, sym, ◌∙◌, ap, subst, arith}
use Rattle.std.specs.List.{AllByRecursion as Each, Contains, list_any, IsDistinct}
use Rattle.std.proofs.lemmas.Bool.{and_from, eqb-true}
use Rattle.std.proofs.lemmas.Bool.Decides.{nat_tests}
use Rattle.std.proofs.Math.Nat.{one-le-pow}
use Rattle.std.proofs.Math.Pow.{pow-lt}
use Rattle.cap_core.specs.declared.profile.ProfileName.{ProfileName}
use Rattle.cap_core.specs.declared.capability.Cap.{Cap}
use Rattle.cap_core.specs.declared.capability.Cap.TheVariants.{Null, Untyped, Endpoint, CNode, Tcb}
use Rattle.cap_core.specs.declared.object.Range.{Range}
use Rattle.cap_core.specs.Ranges.{range_named}
use Rattle.cap_core.specs.Numbers.{slot_size}
use Rattle.cap_core.specs.Objects.{IsLawful, is_null, is_untyped, same_object, contains, are_apart, base_of, bits_of, end_of}
use Rattle.kernel_forest.specs.Forest.{Forest, none, tree, preorder, join, below_those, ancestors, descendants, below, after}
use Rattle.kernel_forest.specs.Entries.{Entry, entry, is_at, is_full, cap_at, cap_in, is_original, slots, first_child}
use Rattle.kernel_forest.specs.Derivation.{derived_entry, derived, rooted, retyped, moved, freed, with_free, emptied, names_same, is_named}
use Rattle.test_parts.specs.TestForests.{HoldsBelow, IsNest, IsTestEntry, IsTestForest, leaves_room, is_clear}
use Rattle.kernel_forest.proofs.Trees.Forests.{each-left_part, each-join, each-weaker, each-contained, each-from_contained, each-contains}
use Rattle.kernel_forest.proofs.Slots.Edits.{each-rooted, each-derived, entry_at}
use Rattle.kernel_forest.proofs.Slots.Retyped.{each-retyped, distinct-retyped}
use Rattle.kernel_forest.proofs.Trees.Renamed.{each-renamed}
use Rattle.kernel_forest.proofs.Slots.Moved.{moved_entry, distinct-moved}
use Rattle.kernel_forest.proofs.Slots.Freed.{freed_entry, distinct-freed}
use Rattle.kernel_forest.proofs.Slots.Emptied.{each-emptied, distinct-emptied}
use Rattle.kernel_forest.proofs.Slots.Distinct.{once_at, distinct-rooted, distinct-derived}
use Rattle.kernel_forest.proofs.Trees.Built.{Absent, Once, once-right_part}
use Rattle.kernel_forest.proofs.Trees.Lines.{once-left_part}
use Rattle.kernel_forest.proofs.Slots.Holding.{cap-entry, original_in-one}
use Rattle.kernel_forest.proofs.Disjoint.Disjointness.{same_number, AreSame, are_same, disjoint-none, disjoint-rooted, apart_contains}
use Rattle.kernel_forest.proofs.Disjoint.Alike.{IsAlike, alike_self, alike_named, alike_freed, contains-alike_second, contains-alike}
use Rattle.kernel_forest.proofs.Disjoint.DisjointDerived.{disjoint-derived_named}
use Rattle.kernel_forest.proofs.Disjoint.DisjointRetyped.{contains-through, disjoint-retyped}
use Rattle.kernel_forest.proofs.Disjoint.DisjointRenamed.{disjoint-freed, disjoint-moved}
use Rattle.kernel_forest.proofs.Disjoint.DisjointEmptied.{disjoint-emptied}
use Rattle.kernel_forest.proofs.Slots.FirstChildren.{childless-bare}
use Rattle.kernel_forest.proofs.Trees.Above.{each-below_those}
use Rattle.test_parts.proofs.Below.{Takes, holds-root, holds-below, holds-after, holds-out, holds-renamed, each-descendant, each-ancestor}

abbrev pub Placed : ProfileName → ℕ → Type 0
Placed p slot = (i : ℕ) × (i < 16) × (slot ≡ i * slot_size p)

-- what a slot holds

pub held : (f : Forest Entry) (a : ℕ) → IsDistinct eqb (slots f) → Each (λ (e : Entry). is_at a e ≡ true → e.cap ≡ cap_at f a) (preorder f)
held f a d = each-from_contained (λ (e : Entry). is_at a e ≡ true → e.cap ≡ cap_at f a) (preorder f) (λ e m t. sym (cap-entry f e d m) ∙ ap (cap_at f) (eqb-true e.slot a t))

pub empty_slot : (p : ProfileName) (a : ℕ) (f : Forest Entry) → IsTestForest p f → is_null (cap_at f a) ≡ true → is_full a f ≡ false
empty_slot p a f h n =
    (elim (is_full a f) as (λ c. is_full a f ≡ c → c ≡ false) [
      | true ↦ λ full.
          let e : (e : Entry) × Contains (preorder f) e × (e.slot ≡ a) × (e.cap ≡ cap_at f a) = entry_at a f full in
          absurd (let t : IsTestEntry p e.0 = each-contained (IsTestEntry p) (preorder f) e.0 h.entries e.1 in
          let m : is_null e.0.cap ≡ false = t.lawful.full in
          let k : is_null e.0.cap ≡ true = ap is_null e.3 ∙ n in cc)
      | false ↦ λ e. refl
    ]) refl

pub full_from : (a : ℕ) (f : Forest Entry) → is_null (cap_at f a) ≡ false → is_full a f ≡ true
full_from a f h = go (preorder f) h
  where
    go : (l : List Entry) → is_null (cap_in a l) ≡ false → list_any (is_at a) l ≡ true
    go [] k = absurd (let n : true ≡ false = k in cc)
    go (e ∷ l) k =
        (elim (e.slot == a) as (λ c. is_null (cond c e.cap (cap_in a l)) ≡ false → (c || list_any (is_at a) l) ≡ true) [ true ↦ λ g. refl | false ↦ λ g. go l g ]) k

-- from what each of the sixteen slots holds to each entry
pub each-slot : (p : ProfileName) (f : Forest Entry) (P : ℕ → Cap → Type 0) → IsTestForest p f → ((i : ℕ) → i < 16 → P i (cap_at f (i * slot_size p)))
    → Each (λ (e : Entry). (i : ℕ) × (e.slot ≡ i * slot_size p) × P i e.cap) (preorder f)
each-slot p f P h g = each-from_contained (λ (e : Entry). (i : ℕ) × (e.slot ≡ i * slot_size p) × P i e.cap) (preorder f) one
  where
    one : (e : Entry) → Contains (preorder f) e → (i : ℕ) × (e.slot ≡ i * slot_size p) × P i e.cap
    one e m =
        let t : IsTestEntry p e = each-contained (IsTestEntry p) (preorder f) e h.entries m in
        let Q : Cap → Type 0 = P t.placed.0 in
        (t.placed.0, t.placed.2, subst Q (ap (cap_at f) (sym t.placed.2) ∙ cap-entry f e h.distinct m) (g t.placed.0 t.placed.1))

-- ranges

not_less : (n : ℕ) → nat_le n n ≡ true
not_less n = grind (arith, nat_tests)

contains-self : (p : ProfileName) (a : Cap) → contains p a a ≡ true
contains-self p a = rw (not_less (base_of a), not_less (end_of p a))

apart_unnamed : (p : ProfileName) (a b : Cap) → are_apart p a b ≡ true → same_object a b ≡ false
apart_unnamed p a b h =
    (elim (same_object a b) as (λ c. same_object a b ≡ c → c ≡ false) [
      | true ↦ λ e.
          let s : AreSame p a b = are_same p a b e in
          absurd (let n : contains p a b ≡ false = apart_contains p a b h in
          let y : contains p a b ≡ true = contains-alike_second p b a a (record { base = sym s.base; bits = sym s.bits; untyped = s.second ∙ sym s.first; names = λ c. sym (s.names c) }) ∙ contains-self p a in cc)
      | false ↦ λ e. refl
    ]) refl

unnamed_by : (cap : Cap) (l : List Entry) → Each (λ (e : Entry). same_object e.cap cap ≡ false) l → list_any (λ (e : Entry). same_object e.cap cap) l ≡ false
unnamed_by cap [] h = refl
unnamed_by cap (e ∷ l) h = rw h.0 (unnamed_by cap l h.1)

pub apart_from_all : (p : ProfileName) (cap : Cap) (f : Forest Entry) → Each (λ (e : Entry). are_apart p e.cap cap ≡ true) (preorder f) → is_named cap f ≡ false
apart_from_all p cap f h = unnamed_by cap (preorder f) (each-weaker (λ (e : Entry). are_apart p e.cap cap ≡ true) (λ (e : Entry). same_object e.cap cap ≡ false) (λ e n. apart_unnamed p e.cap cap n) (preorder f) h)

pub bits_small : (p : ProfileName) (cap : Cap) → IsLawful p 12 cap → bits_of p cap < 64
bits_small p cap h = go (base_of cap) (bits_of p cap) h.placed.within
  where
    go : (i b : ℕ) → i + 2 ^ b ≤ 2 ^ 12 → b < 64
    go i b w =
        (elim (nat_le b 12) as (λ c. nat_le b 12 ≡ c → b < 64) [
          | true ↦ λ e. let l : b ≤ 12 = grind (arith, nat_tests) in omega arith
          | false ↦ λ e. absurd (let l : 12 < b = grind (arith, nat_tests) in let q : 2 ^ 12 < 2 ^ b = pow-lt l in omega arith)
        ]) refl

pub range_small : (p : ProfileName) (cap : Cap) (r : Range) → IsLawful p 12 cap → range_named p cap ≡ Some r → r.bits < 64
range_small p cap r h e = subst S (ap (λ (x : Range). x.bits) (is (is_null cap) h.full e)) (bits_small p cap h)
  where
    S : ℕ → Type 0
    S b = b < 64

    x : Range
    x = record { first = base_of cap; bits = bits_of p cap }

    is : (n : Bool) → n ≡ false → cond n None (Some x) ≡ Some r → x ≡ r
    is true n k = cc
    is false n k = cc

pub lawful_at : (p : ProfileName) (a : ℕ) (f : Forest Entry) → IsTestForest p f → is_null (cap_at f a) ≡ false → IsLawful p 12 (cap_at f a)
lawful_at p a f h n =
    let e : (e : Entry) × Contains (preorder f) e × (e.slot ≡ a) × (e.cap ≡ cap_at f a) = entry_at a f (full_from a f n) in
    let Q : Cap → Type 0 = IsLawful p 12 in
    subst Q e.3 (each-contained (IsTestEntry p) (preorder f) e.0 h.entries e.1).lawful

pub untyped_full : (c : Cap) → is_untyped c ≡ true → is_null c ≡ false
untyped_full Null h = cc
untyped_full (Untyped i bits free) h = refl
untyped_full (Endpoint i badge rights) h = refl
untyped_full (CNode i radix guard) h = refl
untyped_full (Tcb i) h = refl

pub names_same-self : (c : Cap) → is_null c ≡ false → names_same c c ≡ true
names_same-self Null h = cc
names_same-self (Untyped i bits free) h = and_from (i == i) (bits == bits) (same_number i) (same_number bits)
names_same-self (Endpoint i badge rights) h = same_number i
names_same-self (CNode i radix guard) h = and_from (i == i) (radix == radix) (same_number i) (same_number radix)
names_same-self (Tcb i) h = same_number i

pub lawful-freed : (p : ProfileName) (free : ℕ) (c : Cap) → is_untyped c ≡ true → IsLawful p 12 c → free ≤ end_of p c - base_of c → IsLawful p 12 (with_free free c)
lawful-freed p free (Untyped i bits former) t h l =
    record { full = refl; placed = record { aligned = h.placed.aligned; within = h.placed.within; addressed = h.placed.addressed }; holds = record { least = h.holds.least; most = h.holds.most; free_within = fits i (2 ^ bits) l } }
  where
    fits : (i m : ℕ) → free ≤ (i + m) - i → free ≤ m
    fits i m l = omega arith
lawful-freed p free Null t h l = h
lawful-freed p free (Endpoint i badge rights) t h l = h
lawful-freed p free (CNode i radix guard) t h l = h
lawful-freed p free (Tcb i) t h l = h

-- the loops over the slots

pub each_next : (P : ℕ → Type 0) (n : ℕ) → ((k : ℕ) → k < n → P k) → P n → (k : ℕ) → k < n + 1 → P k
each_next P n h e k l =
    (elim (nat_le n k) as (λ c. nat_le n k ≡ c → P k) [
      | true ↦ λ t. (let i : n ≡ k = grind (arith, nat_tests) in subst P i e)
      | false ↦ λ t. h k (grind (arith, nat_tests))
    ]) refl

from_clear : (x y : Bool) → x ≡ false → (x || y) ≡ true → y ≡ true
from_clear x y e h = grind (arith, nat_tests)

pub apart_all : (p : ProfileName) (cap : Cap) (f : Forest Entry) → IsTestForest p f → ((k : ℕ) → k < 16 → is_clear p cap (cap_at f (k * slot_size p)) ≡ true)
    → Each (λ (e : Entry). are_apart p e.cap cap ≡ true) (preorder f)
apart_all p cap f h g =
    each-from_contained (λ (e : Entry). are_apart p e.cap cap ≡ true) (preorder f)
    (λ e m. from_clear (is_null e.cap) (are_apart p e.cap cap) (each-contained (IsTestEntry p) (preorder f) e h.entries m).lawful.full
    (each-contained At (preorder f) e (each-slot p f (λ i c. is_clear p cap c ≡ true) h g) m).2)
  where
    At : Entry → Type 0
    At e = (i : ℕ) × (e.slot ≡ i * slot_size p) × (is_clear p cap e.cap ≡ true)

pub room_all : (p : ProfileName) (parent : ℕ) (region cap : Cap) (f : Forest Entry) → IsTestForest p f
    → ((k : ℕ) → k < 16 → k ≢ parent → leaves_room p region cap (cap_at f (k * slot_size p)) ≡ true)
    → Each (λ (e : Entry). is_at (parent * slot_size p) e ≡ false → leaves_room p region cap e.cap ≡ true) (preorder f)
room_all p parent region cap f h g =
    each-weaker At (λ (e : Entry). is_at (parent * slot_size p) e ≡ false → leaves_room p region cap e.cap ≡ true)
    (λ e t n. t.2 (λ i. differs e.slot (parent * slot_size p) n (t.1 ∙ ap (λ k. k * slot_size p) i))) (preorder f)
    (each-slot p f (λ i c. i ≢ parent → leaves_room p region cap c ≡ true) h g)
  where
    At : Entry → Type 0
    At e = (i : ℕ) × (e.slot ≡ i * slot_size p) × (i ≢ parent → leaves_room p region cap e.cap ≡ true)

    differs : (i j : ℕ) → (i == j) ≡ false → i ≡ j → ⊥
    differs i j n e = grind (arith, nat_tests)

-- each call's forest

pub kept_none : (p : ProfileName) → IsTestForest p none
unfolding IsDistinct
kept_none p = record { entries = tt; distinct = tt; disjoint = disjoint-none p; nested = tt }

pub kept_rooted : (p : ProfileName) (slot : ℕ) (cap : Cap) (f : Forest Entry) → IsTestForest p f → IsLawful p 12 cap → Placed p slot → is_full slot f ≡ false
    → Each (λ (e : Entry). are_apart p e.cap cap ≡ true) (preorder f) → IsTestForest p (rooted slot cap f)
kept_rooted p slot cap f h w i empty apart = record {
  entries = each-rooted (IsTestEntry p) slot cap f h.entries (record { lawful = w; placed = i; original = λ t. refl });
  distinct = distinct-rooted slot cap f h.distinct empty;
  disjoint = disjoint-rooted p slot cap f h.disjoint w.full (λ e m. each-contained (λ (e : Entry). are_apart p e.cap cap ≡ true) (preorder f) e apart m);
  nested = holds-root (IsNest p) (entry slot cap true) f h.nested;
}

-- none stands below itself
absent_below : {A : Type 0} (is : A → Bool) (f : Forest A) → Once is (preorder f) → Absent is (preorder (below_those is f))
absent_below is none o = tt
absent_below {A} is (tree a k r) o =
    (elim (is a) as (λ c. is a ≡ c → Absent is (preorder (cond c k (join (below_those is k) (below_those is r))))) [
      | true ↦ λ e. each-left_part (λ b. is b ≡ false) (preorder k) (preorder r) (o.0 e)
      | false ↦ λ e. each-join (λ b. is b ≡ false) (below_those is k) (below_those is r) (absent_below is k (once-left_part is (preorder k) (preorder r) o.1)) (absent_below is r (once-right_part is (preorder k) (preorder r) o.1))
    ]) refl

-- what leaves room and lies in the region ends in front of the new object
ends_before : (p : ProfileName) (region cap c : Cap) → is_null c ≡ false → contains p region c ≡ true → leaves_room p region cap c ≡ true → end_of p c ≤ base_of cap
ends_before p region cap c n v h = step (is_null c) (contains p region c) (end_of p c) (base_of cap) n v h
  where
    step : (x y : Bool) (i j : ℕ) → x ≡ false → y ≡ true → (x || (not y || nat_le i j)) ≡ true → i ≤ j
    step x y i j n v h = grind (arith, nat_tests)

abbrev pub Leaves : ProfileName → ℕ → Cap → Forest Entry → Type 0
Leaves p parent cap f = Each (λ (e : Entry). is_at parent e ≡ false → leaves_room p (cap_at f parent) cap e.cap ≡ true) (preorder f)

pub leaves_of : (p : ProfileName) (parent n : ℕ) (region cap : Cap) (f : Forest Entry) → parent ≡ n → region ≡ cap_at f parent
    → Each (λ (e : Entry). is_at n e ≡ false → leaves_room p region cap e.cap ≡ true) (preorder f) → Leaves p parent cap f
leaves_of p parent n region cap f i r h =
    let Q : Cap → Type 0 = λ c. Each (λ (e : Entry). is_at parent e ≡ false → leaves_room p c cap e.cap ≡ true) (preorder f) in
    let P : ℕ → Type 0 = λ m. Each (λ (e : Entry). is_at m e ≡ false → leaves_room p region cap e.cap ≡ true) (preorder f) in
    subst Q r (subst P (sym i) h)

pub unnamed_in_room : (p : ProfileName) (parent : ℕ) (cap : Cap) (f : Forest Entry) → IsTestForest p f → is_untyped (cap_at f parent) ≡ true
    → contains p (cap_at f parent) cap ≡ true → Leaves p parent cap f → is_named cap f ≡ false
unnamed_in_room p parent cap f h region within room =
    unnamed_by cap (preorder f) (each-from_contained (λ (e : Entry). same_object e.cap cap ≡ false) (preorder f) one)
  where
    before : (i m j : ℕ) → 1 ≤ m → i + m ≤ j → i ≡ j → ⊥
    before i m j u v e = omega arith

    one : (e : Entry) → Contains (preorder f) e → same_object e.cap cap ≡ false
    one e m =
        (elim (same_object e.cap cap) as (λ c. same_object e.cap cap ≡ c → c ≡ false) [
          | true ↦ λ n.
              let s : AreSame p e.cap cap = are_same p e.cap cap n in
              (elim (e.slot == parent) as (λ b. (e.slot == parent) ≡ b → true ≡ false) [
                | true ↦ λ t. absurd (let k : e.cap ≡ cap_at f parent = each-contained (λ (x : Entry). is_at parent x ≡ true → x.cap ≡ cap_at f parent) (preorder f) e (held f parent h.distinct) m t in
                    let y : is_untyped e.cap ≡ true = ap is_untyped k ∙ region in
                    let z : is_untyped e.cap ≡ false = s.first in cc)
                | false ↦ λ t. absurd (before (base_of e.cap) (2 ^ bits_of p e.cap) (base_of cap) (one-le-pow (bits_of p e.cap) 2 (omega arith))
                    (ends_before p (cap_at f parent) cap e.cap (each-contained (IsTestEntry p) (preorder f) e h.entries m).lawful.full
                    (contains-alike_second p e.cap cap (cap_at f parent) (record { base = s.base; bits = s.bits; untyped = s.first ∙ sym s.second; names = s.names }) ∙ within)
                    (each-contained (λ (x : Entry). is_at parent x ≡ false → leaves_room p (cap_at f parent) cap x.cap ≡ true) (preorder f) e room m t))
                    s.base)
              ]) refl
          | false ↦ λ n. refl
        ]) refl

pub kept_retyped : (p : ProfileName) (parent slot : ℕ) (cap : Cap) (f : Forest Entry) → IsTestForest p f → IsLawful p 12 cap → Placed p slot → is_full parent f ≡ true → is_full slot f ≡ false
    → is_untyped (cap_at f parent) ≡ true → contains p (cap_at f parent) cap ≡ true → Leaves p parent cap f → IsTestForest p (retyped parent slot cap f)
kept_retyped p parent slot cap f h w i full empty region within room = record {
  entries = each-retyped (IsTestEntry p) parent slot cap f h.entries (record { lawful = w; placed = i; original = λ t. refl });
  distinct = distinct-retyped parent slot cap f h.distinct full empty;
  disjoint = disjoint-retyped p parent slot cap f h.disjoint h.distinct full empty region within w.full ends above;
  nested = holds-below (IsNest p) (is_at parent) x f (each-weaker Held (λ (b : Entry). is_at parent b ≡ true → IsNest p b x × Takes (IsNest p) x b) beside (preorder f) (held f parent h.distinct)) h.nested;
}
  where
    x : Entry
    x = entry slot cap true

    Held : Entry → Type 0
    Held e = is_at parent e ≡ true → e.cap ≡ cap_at f parent

    In : Entry → Type 0
    In c = contains p (cap_at f parent) c.cap ≡ true

    Around : Entry → Type 0
    Around a = (is_untyped a.cap ≡ true) × (contains p a.cap (cap_at f parent) ≡ true)

    beside : (b : Entry) → Held b → is_at parent b ≡ true → IsNest p b x × Takes (IsNest p) x b
    beside b k t =
        let u : is_untyped b.cap ≡ true = ap is_untyped (k t) ∙ region in
        let v : contains p b.cap cap ≡ true = ap (λ c. contains p c cap) (k t) ∙ within in
        (record { inside = λ y. v; untyped = λ y. u }, λ a n. record { inside = λ y. contains-through p a.cap b.cap cap (n.inside y) v; untyped = λ y. n.untyped u })

    inside : Each In (descendants (is_at parent) f)
    inside =
        each-descendant (IsNest p) In (is_at parent) f h.nested
        (each-weaker Held (λ (s : Entry). is_at parent s ≡ true → (c : Entry) → IsNest p s c → In c) (λ s k t c n. ap (λ a. contains p a c.cap) (sym (k t)) ∙ n.inside (ap is_untyped (k t) ∙ region)) (preorder f) (held f parent h.distinct))

    Full : Entry → Type 0
    Full c = (is_null c.cap ≡ false) × (is_at parent c ≡ false → leaves_room p (cap_at f parent) cap c.cap ≡ true)

    ends : (c : Entry) → Contains (descendants (is_at parent) f) c → end_of p c.cap ≤ base_of cap
    ends c m =
        let old : Contains (preorder f) c = each-contained (Contains (preorder f)) (descendants (is_at parent) f) c (each-below_those (Contains (preorder f)) (is_at parent) f (each-contains (preorder f))) m in
        ends_before p (cap_at f parent) cap c.cap (each-contained (IsTestEntry p) (preorder f) c h.entries old).lawful.full
        (each-contained In (descendants (is_at parent) f) c inside m)
        (each-contained (λ (e : Entry). is_at parent e ≡ false → leaves_room p (cap_at f parent) cap e.cap ≡ true) (preorder f) c room old
        (each-contained (λ (e : Entry). is_at parent e ≡ false) (descendants (is_at parent) f) c (absent_below (is_at parent) f (once_at parent (preorder f) h.distinct)) m))

    above : (a : Entry) → Contains (ancestors (is_at parent) f) a → Around a
    above a m =
        each-contained Around (ancestors (is_at parent) f) a
        (each-ancestor (IsNest p) Around (is_at parent) f h.nested
        (each-weaker Held (λ (s : Entry). is_at parent s ≡ true → (b : Entry) → IsNest p b s → Around b)
        (λ s k t b n. (let u : is_untyped b.cap ≡ true = n.untyped (ap is_untyped (k t) ∙ region) in (u, ap (contains p b.cap) (sym (k t)) ∙ n.inside u))) (preorder f) (held f parent h.distinct))) m

pub kept_derived : (p : ProfileName) (source slot : ℕ) (cap : Cap) (f : Forest Entry) → IsTestForest p f → IsLawful p 12 cap → Placed p slot → is_full source f ≡ true → is_full slot f ≡ false
    → names_same (cap_at f source) cap ≡ true → (is_untyped cap ≡ true → first_child source f ≡ None) → IsTestForest p (derived source slot cap f)
kept_derived p source slot cap f h w i full empty same childless = record {
  entries = each-derived (IsTestEntry p) source slot cap f h.entries (record { lawful = w; placed = i; original = λ t. rw t });
  distinct = distinct-derived source slot cap f h.distinct full empty;
  disjoint = disjoint-derived_named p source slot cap f h.disjoint h.distinct full empty same original bare;
  nested = elim (is_original source f) as (λ c. HoldsBelow (IsNest p) (cond c (below (is_at source) x f) (after (is_at source) x f))) [
    | true ↦ holds-below (IsNest p) (is_at source) x f (each-weaker Held (λ (b : Entry). is_at source b ≡ true → IsNest p b x × Takes (IsNest p) x b) (λ b k t. (under b k t, takes b k t)) (preorder f) (held f source h.distinct)) h.nested
    | false ↦ holds-after (IsNest p) (is_at source) x f (each-weaker Held (λ (b : Entry). is_at source b ≡ true → Takes (IsNest p) x b) (λ b k t. takes b k t) (preorder f) (held f source h.distinct)) h.nested
  ];
}
  where
    x : Entry
    x = derived_entry source slot cap f

    alike : IsAlike p (cap_at f source) cap
    alike = alike_named p (cap_at f source) cap same

    Held : Entry → Type 0
    Held e = is_at source e ≡ true → e.cap ≡ cap_at f source

    as_cap : (b : Entry) → Held b → is_at source b ≡ true → IsAlike p b.cap cap
    as_cap b k t = let Q : Cap → Type 0 = λ a. IsAlike p a cap in subst Q (sym (k t)) alike

    under : (b : Entry) → Held b → is_at source b ≡ true → IsNest p b x
    under b k t = record { inside = λ y. sym (contains-alike_second p b.cap cap b.cap (as_cap b k t)) ∙ contains-self p b.cap; untyped = λ y. (as_cap b k t).untyped ∙ y }

    takes : (b : Entry) → Held b → is_at source b ≡ true → Takes (IsNest p) x b
    takes b k t a n = record { inside = λ y. sym (contains-alike_second p b.cap cap a.cap (as_cap b k t)) ∙ n.inside y; untyped = λ y. n.untyped ((as_cap b k t).untyped ∙ y) }

    original : is_untyped cap ≡ true → is_original source f ≡ true
    original t =
        original_in-one source true (preorder f) full
        (each-from_contained (λ (e : Entry). (e.slot == source) ≡ true → e.original ≡ true) (preorder f)
        (λ e m a. (each-contained (IsTestEntry p) (preorder f) e h.entries m).original ((as_cap e (each-contained Held (preorder f) e (held f source h.distinct) m) a).untyped ∙ t)))

    Typed : Entry → Type 0
    Typed u = is_untyped u.cap ≡ true → is_untyped cap ≡ true

    typed : Each Typed (descendants (is_at source) f)
    typed =
        each-descendant (IsNest p) Typed (is_at source) f h.nested
        (each-weaker Held (λ (s : Entry). is_at source s ≡ true → (c : Entry) → IsNest p s c → Typed c) (λ s k t c n u. sym (as_cap s k t).untyped ∙ n.untyped u) (preorder f) (held f source h.distinct))

    bare : (u : Entry) → Contains (descendants (is_at source) f) u → (is_untyped cap || is_untyped u.cap) ≡ false
    bare u m =
        (elim (is_untyped cap) as (λ c. is_untyped cap ≡ c → (c || is_untyped u.cap) ≡ false) [
          | true ↦ λ t. absurd (childless-bare source f (childless t) u m)
          | false ↦ λ t. (elim (is_untyped u.cap) as (λ c. is_untyped u.cap ≡ c → c ≡ false) [
            | true ↦ λ v. absurd (let y : is_untyped cap ≡ true = each-contained Typed (descendants (is_at source) f) u typed m v in cc)
            | false ↦ λ v. refl
          ]) refl
        ]) refl

nest-alike : (p : ProfileName) (a b a' b' : Entry) → IsAlike p a.cap a'.cap → IsAlike p b.cap b'.cap → IsNest p a b → IsNest p a' b'
nest-alike p a b a' b' u v n = record {
  inside = λ y. sym (contains-alike p a.cap a'.cap b.cap b'.cap u v) ∙ n.inside (u.untyped ∙ y);
  untyped = λ y. sym u.untyped ∙ n.untyped (v.untyped ∙ y);
}

pub kept_moved : (p : ProfileName) (source slot : ℕ) (cap : Cap) (f : Forest Entry) → IsTestForest p f → IsLawful p 12 cap → Placed p slot → is_full slot f ≡ false
    → names_same (cap_at f source) cap ≡ true → IsTestForest p (moved source slot cap f)
kept_moved p source slot cap f h w i empty same = record {
  entries = each-renamed (IsTestEntry p) (moved_entry source slot cap) f (each-from_contained (λ (e : Entry). IsTestEntry p (moved_entry source slot cap e)) (preorder f) entries);
  distinct = distinct-moved source slot cap f h.distinct empty;
  disjoint = disjoint-moved p source slot cap f h.disjoint h.distinct empty same;
  nested = holds-renamed (IsNest p) Same (moved_entry source slot cap) f (λ a b u v n. nest-alike p a b (moved_entry source slot cap a) (moved_entry source slot cap b) u v n) (each-weaker Held Same alike (preorder f) (held f source h.distinct)) h.nested;
}
  where
    Held : Entry → Type 0
    Held e = is_at source e ≡ true → e.cap ≡ cap_at f source

    Same : Entry → Type 0
    Same e = IsAlike p e.cap (moved_entry source slot cap e).cap

    at_source : (e : Entry) → Held e → is_at source e ≡ true → IsAlike p e.cap cap
    at_source e k t = alike_named p e.cap cap (ap (λ a. names_same a cap) (k t) ∙ same)

    alike : (e : Entry) → Held e → Same e
    alike e k =
        (elim (e.slot == source) as (λ c. (e.slot == source) ≡ c → IsAlike p e.cap (cond c (entry slot cap e.original) e).cap) [
          | true ↦ λ t. at_source e k t
          | false ↦ λ t. alike_self p e.cap
        ]) refl

    entries : (e : Entry) → Contains (preorder f) e → IsTestEntry p (moved_entry source slot cap e)
    entries e m =
        let t : IsTestEntry p e = each-contained (IsTestEntry p) (preorder f) e h.entries m in
        let k : Held e = each-contained Held (preorder f) e (held f source h.distinct) m in
        (elim (e.slot == source) as (λ c. (e.slot == source) ≡ c → IsTestEntry p (cond c (entry slot cap e.original) e)) [
          | true ↦ λ n. record { lawful = w; placed = i; original = λ y. t.original ((at_source e k n).untyped ∙ y) }
          | false ↦ λ n. t
        ]) refl

pub kept_freed : (p : ProfileName) (slot free : ℕ) (f : Forest Entry) → IsTestForest p f → IsLawful p 12 (with_free free (cap_at f slot)) → IsTestForest p (freed slot free f)
kept_freed p slot free f h w = record {
  entries = each-renamed (IsTestEntry p) (freed_entry slot free) f (each-from_contained (λ (e : Entry). IsTestEntry p (freed_entry slot free e)) (preorder f) entries);
  distinct = distinct-freed slot free f h.distinct;
  disjoint = disjoint-freed p slot free f h.disjoint;
  nested = holds-renamed (IsNest p) Same (freed_entry slot free) f (λ a b u v n. nest-alike p a b (freed_entry slot free a) (freed_entry slot free b) u v n) (each-from_contained Same (preorder f) (λ e m. alike e)) h.nested;
}
  where
    Same : Entry → Type 0
    Same e = IsAlike p e.cap (freed_entry slot free e).cap

    alike : (e : Entry) → Same e
    alike e =
        elim (e.slot == slot) as (λ c. IsAlike p e.cap (cond c (entry e.slot (with_free free e.cap) e.original) e).cap) [
          | true ↦ alike_freed p free e.cap
          | false ↦ alike_self p e.cap
        ]

    entries : (e : Entry) → Contains (preorder f) e → IsTestEntry p (freed_entry slot free e)
    entries e m =
        let t : IsTestEntry p e = each-contained (IsTestEntry p) (preorder f) e h.entries m in
        let k : is_at slot e ≡ true → e.cap ≡ cap_at f slot = each-contained (λ (x : Entry). is_at slot x ≡ true → x.cap ≡ cap_at f slot) (preorder f) e (held f slot h.distinct) m in
        (elim (e.slot == slot) as (λ c. (e.slot == slot) ≡ c → IsTestEntry p (cond c (entry e.slot (with_free free e.cap) e.original) e)) [
          | true ↦ λ n. record { lawful = (let Q : Cap → Type 0 = λ a. IsLawful p 12 (with_free free a) in subst Q (sym (k n)) w); placed = t.placed; original = λ y. t.original ((alike_freed p free e.cap).untyped ∙ y) }
          | false ↦ λ n. t
        ]) refl

pub kept_emptied : (p : ProfileName) (slot : ℕ) (f : Forest Entry) → IsTestForest p f → IsTestForest p (emptied slot f)
kept_emptied p slot f h = record {
  entries = each-emptied (IsTestEntry p) slot f h.entries;
  distinct = distinct-emptied slot f h.distinct;
  disjoint = disjoint-emptied p slot f (λ n. once_at n (preorder f) h.distinct) h.disjoint;
  nested = holds-out (IsNest p) (is_at slot) f h.nested;
}
