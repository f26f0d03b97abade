-- A further name of an object or of an untyped region keeps live objects disjoint, also within untyped regions.
use Rattle.std.proofs.Common.{◌≡◌, ℕ, Bool, true, false, cond, ◌||◌, ◌==◌, eqb, List, [], ◌∷◌, ◌⊎◌, inl, inr, refl, sym, ◌∙◌, ap, subst, arith, IsTrue}
use Rattle.std.specs.List.{AllByRecursion as Each, Contains, list_any, IsDistinct}
use Rattle.std.proofs.lemmas.Bool.Decides.{nat_tests}
use Rattle.cap_core.specs.declared.profile.ProfileName.{ProfileName}
use Rattle.cap_core.specs.declared.capability.Cap.{Cap}
use Rattle.cap_core.specs.Objects.{is_untyped, contains}
use Rattle.kernel_forest.specs.Forest.{Forest, preorder, below_those, descendants, ancestors, below, after}
use Rattle.kernel_forest.specs.Entries.{Entry, is_at, is_full, cap_at, is_original, slots}
use Rattle.kernel_forest.specs.Derivation.{derived, derived_entry, names_same}
use Rattle.kernel_forest.specs.Disjoint.{are_disjoint, AreInLine, IsDisjoint}
use Rattle.kernel_forest.proofs.Trees.Forests.{each-contained, each-contains, each-weaker}
use Rattle.kernel_forest.proofs.Slots.Edits.{contains-derived, entry_at}
use Rattle.kernel_forest.proofs.Disjoint.Disjointness.{are_disjoint-swap, in_line-derived, slot_differs}
use Rattle.kernel_forest.proofs.Slots.Distinct.{once_at}
use Rattle.kernel_forest.proofs.Trees.Above.{each-below_those}
use Rattle.kernel_forest.proofs.Slots.Holding.{cap-entry, none_stands}
use Rattle.kernel_forest.proofs.Disjoint.Alike.{IsAlike, alike_named, contains-alike_first, contains-alike_second, disjoint-alike_first}
use Rattle.kernel_forest.proofs.Trees.Lines.{new-below_it, new-below_above, new-after_above, ancestors-above_new, ancestors-descend}

-- one more entry, which is disjoint from each and in line with what contains it and what it contains
pub disjoint-put : (p : ProfileName) (f g : Forest Entry) (x : Entry) → ((e : Entry) → Contains (preorder g) e → Contains (preorder f) e ⊎ (x ≡ e)) → IsDisjoint p f
    → ((a : Entry) → Contains (preorder f) a → are_disjoint p x.cap a.cap ≡ true) → are_disjoint p x.cap x.cap ≡ true
    → ((u c : Entry) → Contains (preorder f) u → AreInLine f u c → AreInLine g u c)
    → ((u : Entry) → Contains (preorder f) u → is_untyped u.cap ≡ true → contains p u.cap x.cap ≡ true → AreInLine g u x)
    → ((c : Entry) → Contains (preorder f) c → is_untyped x.cap ≡ true → contains p x.cap c.cap ≡ true → AreInLine g x c) → IsDisjoint p g
disjoint-put p f g x cases d with_old with_self kept over under = record { objects = objects; lines = lines }
  where
    objects : (a b : Entry) → Contains (preorder g) a → Contains (preorder g) b → IsTrue (are_disjoint p a.cap b.cap)
    objects a b h k =
        elim (cases a h) [
          | inl h' ↦ elim (cases b k) [
            | inl k' ↦ d.objects a b h' k'
            | inr e ↦ let Q : Entry → Type 0 = λ y. are_disjoint p a.cap y.cap ≡ true in subst Q e (are_disjoint-swap p a.cap x.cap ∙ with_old a h')
          ]
          | inr e ↦ elim (cases b k) [
            | inl k' ↦ let Q : Entry → Type 0 = λ y. are_disjoint p y.cap b.cap ≡ true in subst Q e (with_old b k')
            | inr e' ↦ let Q : Entry → Type 0 = λ y. are_disjoint p y.cap b.cap ≡ true in subst Q e (let R : Entry → Type 0 = λ y. are_disjoint p x.cap y.cap ≡ true in subst R e' with_self)
          ]
        ]

    lines : (u c : Entry) → Contains (preorder g) u → Contains (preorder g) c → IsTrue (is_untyped u.cap) → IsTrue (contains p u.cap c.cap) → AreInLine g u c
    lines u c h k t v =
        elim (cases u h) [
          | inl h' ↦ elim (cases c k) [
            | inl k' ↦ kept u c h' (d.lines u c h' k' t v)
            | inr e ↦ (let Q : Entry → Type 0 = λ y. contains p u.cap y.cap ≡ true → AreInLine g u y in subst Q e (over u h' t)) v
          ]
          | inr e ↦ elim (cases c k) [
            | inl k' ↦ (let Q : Entry → Type 0 = λ y. is_untyped y.cap ≡ true → contains p y.cap c.cap ≡ true → AreInLine g y c in subst Q e (under c k')) t v
            | inr e' ↦ inl (ap (λ (y : Entry). y.slot) (sym e' ∙ e))
          ]
        ]

pub any_contained : (t : Entry → Bool) (l : List Entry) (e : Entry) → Contains l e → t e ≡ true → list_any t l ≡ true
any_contained t l e m = each-contained (λ (y : Entry). t y ≡ true → list_any t l ≡ true) l e (go l) m
  where
    or_true : (b : Bool) → (b || true) ≡ true
    or_true true = refl
    or_true false = refl

    go : (l : List Entry) → Each (λ (y : Entry). t y ≡ true → list_any t l ≡ true) l
    go [] = tt
    go (y ∷ l) = ((λ i. rw i refl), each-weaker (λ (z : Entry). t z ≡ true → list_any t l ≡ true) (λ (z : Entry). t z ≡ true → list_any t (y ∷ l) ≡ true) (λ z h i. rw (h i) (or_true (t y))) l (go l))

-- the source of an untyped capability is original and has no child, and below a source that is no untyped one stands none
pub disjoint-derived_named : (p : ProfileName) (source slot : ℕ) (cap : Cap) (f : Forest Entry) → IsDisjoint p f → IsDistinct eqb (slots f) → is_full source f ≡ true → is_full slot f ≡ false
    → names_same (cap_at f source) cap ≡ true → (is_untyped cap ≡ true → is_original source f ≡ true)
    → ((u : Entry) → Contains (descendants (is_at source) f) u → (is_untyped cap || is_untyped u.cap) ≡ false) → IsDisjoint p (derived source slot cap f)
disjoint-derived_named p source slot cap f d distinct full empty same original bare =
    disjoint-put p f (derived source slot cap f) x (contains-derived source slot cap f) d with_old with_self (λ u c h i. in_line-derived source slot cap f u c (slot_differs slot f u empty h) i) over under
  where
    x : Entry
    x = derived_entry source slot cap f

    s : (s : Entry) × Contains (preorder f) s × (s.slot ≡ source) × (s.cap ≡ cap_at f source)
    s = entry_at source f full

    alike : IsAlike p s.0.cap cap
    alike = alike_named p s.0.cap cap (ap (λ a. names_same a cap) s.3 ∙ same)

    number : (i : ℕ) → (i == i) ≡ true
    number i = grind (arith, nat_tests)

    at_source : is_at source s.0 ≡ true
    at_source = ap (λ i. i == source) s.2 ∙ number source

    with_old : (a : Entry) → Contains (preorder f) a → are_disjoint p cap a.cap ≡ true
    with_old a h = sym (disjoint-alike_first p s.0.cap cap a.cap alike) ∙ d.objects s.0 a s.1 h

    with_self : are_disjoint p cap cap ≡ true
    with_self = sym (disjoint-alike_first p s.0.cap cap cap alike) ∙ are_disjoint-swap p s.0.cap cap ∙ with_old s.0 s.1

    -- nothing untyped below the source, and nothing at all where it is untyped itself
    none_below : (u : Entry) → Contains (preorder f) u → (is_untyped cap || is_untyped u.cap) ≡ true → list_any (is_at u.slot) (descendants (is_at source) f) ≡ true → ⊥
    none_below u h t i =
        let e : (e : Entry) × Contains (descendants (is_at source) f) e × (e.slot ≡ u.slot) × (e.cap ≡ cap_at (below_those (is_at source) f) u.slot) = entry_at u.slot (below_those (is_at source) f) i in
        let m : Contains (preorder f) e.0 = each-contained (Contains (preorder f)) (descendants (is_at source) f) e.0 (each-below_those (Contains (preorder f)) (is_at source) f (each-contains (preorder f))) e.1 in
        let c : u.cap ≡ e.0.cap = sym (cap-entry f u distinct h) ∙ ap (cap_at f) (sym e.2) ∙ cap-entry f e.0 distinct m in
        let n : (is_untyped cap || is_untyped u.cap) ≡ false = ap (λ a. is_untyped cap || is_untyped a) c ∙ bare e.0 e.1 in cc

    or_true : (b : Bool) → (b || true) ≡ true
    or_true true = refl
    or_true false = refl

    is_untyped_cap : (u : Entry) → Contains (preorder f) u → is_untyped u.cap ≡ true → s.0.slot ≡ u.slot → is_untyped cap ≡ true
    is_untyped_cap u h t e = sym alike.untyped ∙ ap is_untyped (sym (cap-entry f s.0 distinct s.1) ∙ ap (cap_at f) e ∙ cap-entry f u distinct h) ∙ t

    over : (u : Entry) → Contains (preorder f) u → is_untyped u.cap ≡ true → contains p u.cap cap ≡ true → AreInLine (derived source slot cap f) u x
    over u h t v =
        elim (d.lines u s.0 h s.1 t (contains-alike_second p s.0.cap cap u.cap alike ∙ v)) [
          | inl e ↦ inr (inl (let R : ℕ → Type 0 = λ i. Contains (descendants (is_at i) (derived source slot cap f)) x in
              subst R (sym s.2 ∙ e)
              (let Q : Bool → Type 0 = λ b. Contains (preorder (below_those (is_at source) (cond b (below (is_at source) x f) (after (is_at source) x f)))) x in
              subst Q (sym (original (is_untyped_cap u h t e)))
              (new-below_it (Contains (descendants (is_at source) (below (is_at source) x f))) (is_at source) x f full (each-contains (descendants (is_at source) (below (is_at source) x f)))))))
          | inr (inl m) ↦ inr (inl (let i : list_any (is_at source) (descendants (is_at u.slot) f) ≡ true = any_contained (is_at source) (descendants (is_at u.slot) f) s.0 m at_source in
              elim (is_original source f) as (λ b. Contains (preorder (below_those (is_at u.slot) (cond b (below (is_at source) x f) (after (is_at source) x f)))) x) [
                | true ↦ new-below_above (Contains (descendants (is_at u.slot) (below (is_at source) x f))) (is_at source) (is_at u.slot) x f (once_at source (preorder f) distinct) i (each-contains (descendants (is_at u.slot) (below (is_at source) x f)))
                | false ↦ new-after_above (Contains (descendants (is_at u.slot) (after (is_at source) x f))) (is_at source) (is_at u.slot) x f (once_at source (preorder f) distinct) i (each-contains (descendants (is_at u.slot) (after (is_at source) x f)))
              ]))
          | inr (inr m) ↦ absurd (none_below u h (ap (λ b. is_untyped cap || b) t ∙ or_true (is_untyped cap))
              (each-contained (λ (y : Entry). is_at source y ≡ true → list_any (is_at u.slot) (descendants (is_at source) f) ≡ true) (ancestors (is_at u.slot) f) s.0 (ancestors-descend (is_at u.slot) (is_at source) f (once_at source (preorder f) distinct)) m at_source))
        ]

    -- above the new entry stand the source and what stands above that
    above_new : is_untyped cap ≡ true → Each (Contains (ancestors (is_at slot) (derived source slot cap f))) (ancestors (is_at source) f)
        × Each (λ (e : Entry). is_at source e ≡ true → Contains (ancestors (is_at slot) (derived source slot cap f)) e) (preorder f)
    above_new t =
        let Q : Bool → Type 0 = λ b. Each (Contains (ancestors (is_at slot) (cond b (below (is_at source) x f) (after (is_at source) x f)))) (ancestors (is_at source) f)
        × Each (λ (e : Entry). is_at source e ≡ true → Contains (ancestors (is_at slot) (cond b (below (is_at source) x f) (after (is_at source) x f))) e) (preorder f) in
        subst Q (sym (original t))
        (ancestors-above_new (Contains (ancestors (is_at slot) (below (is_at source) x f))) (is_at source) (is_at slot) x f (once_at source (preorder f) distinct) (none_stands slot (preorder f) empty) (number slot)
        (each-contains (ancestors (is_at slot) (below (is_at source) x f))))

    under : (c : Entry) → Contains (preorder f) c → is_untyped cap ≡ true → contains p cap c.cap ≡ true → AreInLine (derived source slot cap f) x c
    under c h t v =
        elim (d.lines s.0 c s.1 h (alike.untyped ∙ t) (contains-alike_first p s.0.cap cap c.cap alike ∙ v)) [
          | inl e ↦ inr (inr (each-contained (λ (y : Entry). is_at source y ≡ true → Contains (ancestors (is_at slot) (derived source slot cap f)) y) (preorder f) c (above_new t).1 h
              (ap (λ i. i == source) (e ∙ s.2) ∙ number source)))
          | inr (inl m) ↦ absurd (let m' : Contains (descendants (is_at source) f) c = (let R : ℕ → Type 0 = λ i. Contains (descendants (is_at i) f) c in subst R s.2 m) in
              let n : (is_untyped cap || is_untyped c.cap) ≡ false = bare c m' in cc)
          | inr (inr m) ↦ let m' : Contains (ancestors (is_at source) f) c = (let R : ℕ → Type 0 = λ i. Contains (ancestors (is_at i) f) c in subst R s.2 m) in
              inr (inr (each-contained (Contains (ancestors (is_at slot) (derived source slot cap f))) (ancestors (is_at source) f) c (above_new t).0 m'))
        ]
