-- Which puts keep live objects disjoint.
use Rattle.std.proofs.Common.{◌≡◌, ℕ, ◌+◌, ◌≤◌, ◌^◌, Bool, true, false, cond, ◌&&◌, ◌||◌, ◌==◌, List, inl, inr, refl, sym, ◌∙◌, ap, subst, arith, IsTrue, nat_le}
use Rattle.std.specs.List.{Contains}
use Rattle.std.proofs.Math.Nat.{one-le-pow}
use Rattle.std.proofs.lemmas.Bool.{and_parts, eqb-true}
use Rattle.std.proofs.lemmas.Bool.Decides.{nat_tests}
use Rattle.cap_core.specs.declared.profile.ProfileName.{ProfileName}
use Rattle.cap_core.specs.declared.capability.Cap.{Cap}
use Rattle.cap_core.specs.declared.capability.Cap.TheVariants.{Null, Untyped, Endpoint, CNode, Tcb}
use Rattle.cap_core.specs.Objects.{is_null, is_untyped, base_of, bits_of, end_of, same_object, contains, are_apart}
use Rattle.kernel_forest.specs.Forest.{Forest, none, preorder, below_those, ancestors, below, after}
use Rattle.kernel_forest.specs.Entries.{Entry, entry, is_at, is_full, cap_at, is_original}
use Rattle.kernel_forest.specs.Derivation.{derived, derived_entry, rooted}
use Rattle.kernel_forest.specs.Disjoint.{are_disjoint, AreInLine, IsDisjoint}
use Rattle.kernel_forest.proofs.Trees.Forests.{each-contained, each-contains, below_those-root, ancestors-root, ancestors-below, ancestors-after, each-below_those_below, each-below_those_after}
use Rattle.kernel_forest.proofs.Trees.Lines.{any_none}
use Rattle.kernel_forest.proofs.Slots.Edits.{contains-rooted, contains-derived, entry_at}

-- two tests of which one passes, in the other order
or_swap : (a b : Bool) → (a || b) ≡ (b || a)
or_swap true true = refl
or_swap true false = refl
or_swap false true = refl
or_swap false false = refl

eqb_swap : (i j : ℕ) → (i == j) ≡ (j == i)
eqb_swap i j = grind (arith, nat_tests)

pub same_object-swap : (a b : Cap) → same_object a b ≡ same_object b a
same_object-swap (Endpoint i badge rights) (Endpoint j badge' rights') = eqb_swap i j
same_object-swap (CNode i radix guard) (CNode j radix' guard') = rw (eqb_swap i j, eqb_swap radix radix')
same_object-swap (Tcb i) (Tcb j) = eqb_swap i j
same_object-swap Null Null = refl
same_object-swap Null (Untyped j bits free) = refl
same_object-swap Null (Endpoint j badge rights) = refl
same_object-swap Null (CNode j radix guard) = refl
same_object-swap Null (Tcb j) = refl
same_object-swap (Untyped i bits free) Null = refl
same_object-swap (Untyped i bits free) (Untyped j bits' free') = refl
same_object-swap (Untyped i bits free) (Endpoint j badge rights) = refl
same_object-swap (Untyped i bits free) (CNode j radix guard) = refl
same_object-swap (Untyped i bits free) (Tcb j) = refl
same_object-swap (Endpoint i badge rights) Null = refl
same_object-swap (Endpoint i badge rights) (Untyped j bits free) = refl
same_object-swap (Endpoint i badge rights) (CNode j radix guard) = refl
same_object-swap (Endpoint i badge rights) (Tcb j) = refl
same_object-swap (CNode i radix guard) Null = refl
same_object-swap (CNode i radix guard) (Untyped j bits free) = refl
same_object-swap (CNode i radix guard) (Endpoint j badge rights) = refl
same_object-swap (CNode i radix guard) (Tcb j) = refl
same_object-swap (Tcb i) Null = refl
same_object-swap (Tcb i) (Untyped j bits free) = refl
same_object-swap (Tcb i) (Endpoint j badge rights) = refl
same_object-swap (Tcb i) (CNode j radix guard) = refl

pub are_disjoint-swap : (p : ProfileName) (a b : Cap) → are_disjoint p a b ≡ are_disjoint p b a
are_disjoint-swap p a b =
    rw (same_object-swap a b)
    (ap (λ t. t || (same_object b a || ((is_untyped a && contains p a b) || (is_untyped b && contains p b a)))) (or_swap (nat_le (end_of p a) (base_of b)) (nat_le (end_of p b) (base_of a)))
    ∙ ap (λ t. are_apart p b a || (same_object b a || t)) (or_swap (is_untyped a && contains p a b) (is_untyped b && contains p b a)))

pub are_apart-swap : (p : ProfileName) (a b : Cap) → are_apart p a b ≡ are_apart p b a
are_apart-swap p a b = or_swap (nat_le (end_of p a) (base_of b)) (nat_le (end_of p b) (base_of a))

-- a capability's object and itself
pub same_number : (n : ℕ) → (n == n) ≡ true
same_number n = grind (arith, nat_tests)

or_true : (t : Bool) → (t || true) ≡ true
or_true true = refl
or_true false = refl

pub are_disjoint-self : (p : ProfileName) (a : Cap) → is_null a ≡ false → are_disjoint p a a ≡ true
are_disjoint-self p Null h = cc
are_disjoint-self p (Untyped i bits free) h =
    let e : nat_le i i ≡ true = grind (arith, nat_tests) in
    let n : nat_le (i + 2 ^ bits) (i + 2 ^ bits) ≡ true = grind (arith, nat_tests) in
    rw (e, n) (or_true (are_apart p (Untyped i bits free) (Untyped i bits free)))
are_disjoint-self p (Endpoint i badge rights) h = rw (same_number i) (or_true (are_apart p (Endpoint i badge rights) (Endpoint i badge rights)))
are_disjoint-self p (CNode i radix guard) h = rw (same_number i, same_number radix) (or_true (are_apart p (CNode i radix guard) (CNode i radix guard)))
are_disjoint-self p (Tcb i) h = rw (same_number i) (or_true (are_apart p (Tcb i) (Tcb i)))

-- apart objects contain neither the other
pub apart_contains : (p : ProfileName) (a b : Cap) → are_apart p a b ≡ true → contains p a b ≡ false
apart_contains p a b h = step (base_of a) (base_of b) (2 ^ bits_of p a) (2 ^ bits_of p b) (one-le-pow (bits_of p a) 2 (omega arith)) (one-le-pow (bits_of p b) 2 (omega arith)) h
  where
    step : (i j m n : ℕ) → 1 ≤ m → 1 ≤ n → (nat_le (i + m) j || nat_le (j + n) i) ≡ true → (nat_le i j && nat_le (j + n) (i + m)) ≡ false
    step i j m n u v h = grind (arith, nat_tests)

pub disjoint-apart : (p : ProfileName) (a b : Cap) → are_apart p a b ≡ true → are_disjoint p a b ≡ true
disjoint-apart p a b h = rw h

-- two names of one object
pub record AreSame (p : ProfileName) (a b : Cap) : Type 0 where
  pub base : base_of a ≡ base_of b
  pub bits : bits_of p a ≡ bits_of p b
  pub first : is_untyped a ≡ false
  pub second : is_untyped b ≡ false
  pub names : (c : Cap) → same_object a c ≡ same_object b c

pub are_same : (p : ProfileName) (a b : Cap) → same_object a b ≡ true → AreSame p a b
are_same p (Endpoint i badge rights) (Endpoint j badge' rights') h =
    let e : i ≡ j = eqb-true i j h in
    record { base = e; bits = refl; first = refl; second = refl; names = each e }
  where
    each : i ≡ j → (c : Cap) → same_object (Endpoint i badge rights) c ≡ same_object (Endpoint j badge' rights') c
    each e (Endpoint k b r) = rw e
    each e Null = refl
    each e (Untyped k b f) = refl
    each e (CNode k r g) = refl
    each e (Tcb k) = refl
are_same p (CNode i radix guard) (CNode j radix' guard') h =
    let both = and_parts (i == j) (radix == radix') h in
    let e : i ≡ j = eqb-true i j both.0 in
    let f : radix ≡ radix' = eqb-true radix radix' both.1 in
    record { base = e; bits = rw f; first = refl; second = refl; names = each e f }
  where
    each : i ≡ j → radix ≡ radix' → (c : Cap) → same_object (CNode i radix guard) c ≡ same_object (CNode j radix' guard') c
    each e f (CNode k r g) = rw (e, f)
    each e f Null = refl
    each e f (Untyped k b g) = refl
    each e f (Endpoint k b r) = refl
    each e f (Tcb k) = refl
are_same p (Tcb i) (Tcb j) h =
    let e : i ≡ j = eqb-true i j h in
    record { base = e; bits = refl; first = refl; second = refl; names = each e }
  where
    each : i ≡ j → (c : Cap) → same_object (Tcb i) c ≡ same_object (Tcb j) c
    each e (Tcb k) = rw e
    each e Null = refl
    each e (Untyped k b f) = refl
    each e (Endpoint k b r) = refl
    each e (CNode k r g) = refl
are_same p a b h = absurd (let n : false ≡ true = h in cc)

pub disjoint-same : (p : ProfileName) (a b c : Cap) → same_object a b ≡ true → are_disjoint p a c ≡ are_disjoint p b c
disjoint-same p a b c h =
    let s : AreSame p a b = are_same p a b h in
    rw (s.names c, s.base, s.bits, s.first, s.second)

-- an empty forest
pub disjoint-none : (p : ProfileName) → IsDisjoint p none
disjoint-none p = record { objects = λ a b h k. absurd (omega (arith, h.1)); lines = λ u c h k t v. absurd (omega (arith, h.1)) }

-- a capability that is derived from none, of an object apart from all
pub disjoint-rooted : (p : ProfileName) (slot : ℕ) (cap : Cap) (f : Forest Entry) → IsDisjoint p f → is_null cap ≡ false
    → ((e : Entry) → Contains (preorder f) e → are_apart p e.cap cap ≡ true) → IsDisjoint p (rooted slot cap f)
disjoint-rooted p slot cap f d n apart = record { objects = objects; lines = lines }
  where
    x : Entry
    x = entry slot cap true

    to_new : (a b : Entry) → Contains (preorder f) a → x ≡ b → are_disjoint p a.cap b.cap ≡ true
    to_new a b h e = let Q : Entry → Type 0 = λ y. are_disjoint p a.cap y.cap ≡ true in subst Q e (disjoint-apart p a.cap cap (apart a h))

    objects : (a b : Entry) → Contains (preorder (rooted slot cap f)) a → Contains (preorder (rooted slot cap f)) b → IsTrue (are_disjoint p a.cap b.cap)
    objects a b h k =
        elim (contains-rooted slot cap f a h) [
          | inl h' ↦ elim (contains-rooted slot cap f b k) [
            | inl k' ↦ d.objects a b h' k'
            | inr e ↦ to_new a b h' e
          ]
          | inr e ↦ elim (contains-rooted slot cap f b k) [
            | inl k' ↦ are_disjoint-swap p a.cap b.cap ∙ to_new b a k' e
            | inr e' ↦ let Q : Entry → Type 0 = λ y. are_disjoint p y.cap b.cap ≡ true in subst Q e (let R : Entry → Type 0 = λ y. are_disjoint p cap y.cap ≡ true in subst R e' (are_disjoint-self p cap n))
          ]
        ]

    lines : (u c : Entry) → Contains (preorder (rooted slot cap f)) u → Contains (preorder (rooted slot cap f)) c → IsTrue (is_untyped u.cap) → IsTrue (contains p u.cap c.cap)
        → AreInLine (rooted slot cap f) u c
    lines u c h k t v =
        elim (contains-rooted slot cap f u h) [
          | inl h' ↦ elim (contains-rooted slot cap f c k) [
            | inl k' ↦ kept u c (d.lines u c h' k' t v)
            | inr e ↦ absurd (let w : contains p u.cap cap ≡ true = (let Q : Entry → Type 0 = λ y. contains p u.cap y.cap ≡ true in subst Q (sym e) v) in let z : contains p u.cap cap ≡ false = apart_contains p u.cap cap (apart u h') in cc)
          ]
          | inr e ↦ elim (contains-rooted slot cap f c k) [
            | inl k' ↦ absurd (let w : contains p cap c.cap ≡ true = (let Q : Entry → Type 0 = λ y. contains p y.cap c.cap ≡ true in subst Q (sym e) v) in let z : contains p cap c.cap ≡ false = apart_contains p cap c.cap (are_apart-swap p cap c.cap ∙ apart c k') in cc)
            | inr e' ↦ inl (ap (λ (y : Entry). y.slot) (sym e' ∙ e))
          ]
        ]
      where
        kept : (u c : Entry) → AreInLine f u c → AreInLine (rooted slot cap f) u c
        kept u c (inl e) = inl e
        kept u c (inr (inl m)) = inr (inl (let Q : Forest Entry → Type 0 = λ g. Contains (preorder g) c in subst Q (sym (below_those-root (is_at u.slot) (entry slot cap true) f)) m))
        kept u c (inr (inr m)) = inr (inr (let Q : List Entry → Type 0 = λ l. Contains l c in subst Q (sym (ancestors-root (is_at u.slot) (entry slot cap true) f)) m))

-- an entry's slot is not an empty one
pub slot_differs : (slot : ℕ) (f : Forest Entry) (u : Entry) → is_full slot f ≡ false → Contains (preorder f) u → (slot == u.slot) ≡ false
slot_differs slot f u h m = other_way slot u.slot (each-contained (λ (e : Entry). is_at slot e ≡ false) (preorder f) u (any_none (is_at slot) (preorder f) h) m)
  where
    other_way : (i j : ℕ) → (j == i) ≡ false → (i == j) ≡ false
    other_way i j e = grind (arith, nat_tests)

-- entries that stand in one line still do
pub in_line-derived : (source slot : ℕ) (cap : Cap) (f : Forest Entry) (u c : Entry) → (slot == u.slot) ≡ false → AreInLine f u c → AreInLine (derived source slot cap f) u c
in_line-derived source slot cap f u c n (inl e) = inl e
in_line-derived source slot cap f u c n (inr (inl m)) =
    inr (inl (elim (is_original source f) as (λ b. Contains (preorder (below_those (is_at u.slot) (cond b (below (is_at source) x f) (after (is_at source) x f)))) c) [
      | true ↦ let P : Entry → Type 0 = Contains (preorder (below_those q (below (is_at source) x f))) in
          each-contained P (preorder (below_those q f)) c (each-below_those_below P (is_at source) q x f n (each-contains (preorder (below_those q (below (is_at source) x f))))) m
      | false ↦ let P : Entry → Type 0 = Contains (preorder (below_those q (after (is_at source) x f))) in
          each-contained P (preorder (below_those q f)) c (each-below_those_after P (is_at source) q x f n (each-contains (preorder (below_those q (after (is_at source) x f))))) m
    ]))
  where
    x : Entry
    x = derived_entry source slot cap f

    q : Entry → Bool
    q = is_at u.slot
in_line-derived source slot cap f u c n (inr (inr m)) =
    inr (inr (elim (is_original source f) as (λ b. Contains (ancestors (is_at u.slot) (cond b (below (is_at source) (derived_entry source slot cap f) f) (after (is_at source) (derived_entry source slot cap f) f))) c) [
      | true ↦ let Q : List Entry → Type 0 = λ l. Contains l c in subst Q (sym (ancestors-below (is_at source) (is_at u.slot) (derived_entry source slot cap f) f n)) m
      | false ↦ let Q : List Entry → Type 0 = λ l. Contains l c in subst Q (sym (ancestors-after (is_at source) (is_at u.slot) (derived_entry source slot cap f) f n)) m
    ]))

-- a further name of an object that is in no untyped region
pub disjoint-derived : (p : ProfileName) (source slot : ℕ) (cap : Cap) (f : Forest Entry) → IsDisjoint p f → is_full source f ≡ true → is_full slot f ≡ false
    → same_object (cap_at f source) cap ≡ true → ((u : Entry) → Contains (preorder f) u → is_untyped u.cap ≡ true → contains p u.cap cap ≡ false)
    → IsDisjoint p (derived source slot cap f)
disjoint-derived p source slot cap f d full empty same outside = record { objects = objects; lines = lines }
  where
    x : Entry
    x = derived_entry source slot cap f

    stands : (s : Entry) × Contains (preorder f) s × (s.slot ≡ source) × (s.cap ≡ cap_at f source)
    stands = entry_at source f full

    is_same : same_object stands.0.cap cap ≡ true
    is_same = ap (λ a. same_object a cap) stands.3 ∙ same

    with_old : (a : Entry) → Contains (preorder f) a → are_disjoint p cap a.cap ≡ true
    with_old a h = sym (disjoint-same p stands.0.cap cap a.cap is_same) ∙ d.objects stands.0 a stands.1 h

    with_new : are_disjoint p cap cap ≡ true
    with_new = sym (disjoint-same p stands.0.cap cap cap is_same) ∙ are_disjoint-swap p stands.0.cap cap ∙ with_old stands.0 stands.1

    objects : (a b : Entry) → Contains (preorder (derived source slot cap f)) a → Contains (preorder (derived source slot cap f)) b → IsTrue (are_disjoint p a.cap b.cap)
    objects a b h k =
        elim (contains-derived source slot cap f a h) [
          | inl h' ↦ elim (contains-derived source slot cap f b k) [
            | inl k' ↦ d.objects a b h' k'
            | inr e ↦ let Q : Entry → Type 0 = λ y. are_disjoint p a.cap y.cap ≡ true in subst Q e (are_disjoint-swap p a.cap cap ∙ with_old a h')
          ]
          | inr e ↦ elim (contains-derived source slot cap f b k) [
            | inl k' ↦ let Q : Entry → Type 0 = λ y. are_disjoint p y.cap b.cap ≡ true in subst Q e (with_old b k')
            | inr e' ↦ let Q : Entry → Type 0 = λ y. are_disjoint p y.cap b.cap ≡ true in subst Q e (let R : Entry → Type 0 = λ y. are_disjoint p cap y.cap ≡ true in subst R e' with_new)
          ]
        ]

    lines : (u c : Entry) → Contains (preorder (derived source slot cap f)) u → Contains (preorder (derived source slot cap f)) c → IsTrue (is_untyped u.cap)
        → IsTrue (contains p u.cap c.cap) → AreInLine (derived source slot cap f) u c
    lines u c h k t v =
        elim (contains-derived source slot cap f u h) [
          | inl h' ↦ elim (contains-derived source slot cap f c k) [
            | inl k' ↦ in_line-derived source slot cap f u c (slot_differs slot f u empty h') (d.lines u c h' k' t v)
            | inr e ↦ absurd (let w : contains p u.cap cap ≡ true = (let Q : Entry → Type 0 = λ y. contains p u.cap y.cap ≡ true in subst Q (sym e) v) in let z : contains p u.cap cap ≡ false = outside u h' t in cc)
          ]
          | inr e ↦ absurd (let w : is_untyped cap ≡ true = (let Q : Entry → Type 0 = λ y. is_untyped y.cap ≡ true in subst Q (sym e) t) in let z : is_untyped cap ≡ false = (are_same p stands.0.cap cap is_same).second in cc)
        ]
