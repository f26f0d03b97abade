-- Another free index and a move keep live objects disjoint.
use Rattle.std.proofs.Common.{◌≡◌, ℕ, true, false, cond, ◌==◌, eqb, List, [], ◌∷◌, map, inl, inr, refl, sym, ◌∙◌, ap, subst, arith, IsTrue}
use Rattle.std.specs.List.{AllByRecursion as Each, Contains, IsDistinct}
use Rattle.std.proofs.lemmas.Bool.Decides.{nat_tests}
use Rattle.cap_core.specs.declared.profile.ProfileName.{ProfileName}
use Rattle.cap_core.specs.declared.capability.Cap.{Cap}
use Rattle.cap_core.specs.Objects.{is_untyped, contains}
use Rattle.kernel_forest.specs.Forest.{Forest, preorder, below_those, ancestors, renamed}
use Rattle.kernel_forest.specs.Entries.{Entry, entry, is_at, is_full, cap_at, slots}
use Rattle.kernel_forest.specs.Derivation.{moved, freed, with_free, names_same}
use Rattle.kernel_forest.specs.Disjoint.{are_disjoint, AreInLine, IsDisjoint}
use Rattle.kernel_forest.proofs.Trees.Forests.{each-contained}
use Rattle.kernel_forest.proofs.Trees.Built.{renamed-below_those}
use Rattle.kernel_forest.proofs.Slots.Holding.{none_stands, cap-entry}
use Rattle.kernel_forest.proofs.Trees.Renamed.{contains-renamed, contains-renamed_old, contains-map, ancestors-renamed, ancestors-agree, below_those-agree}
use Rattle.kernel_forest.proofs.Slots.Freed.{freed_entry, slot-freed_entry}
use Rattle.kernel_forest.proofs.Slots.Moved.{moved_entry}
use Rattle.kernel_forest.proofs.Disjoint.Alike.{IsAlike, alike_self, alike_named, alike_freed, disjoint-alike, contains-alike}

-- the new slots are equal where the slots were
abbrev pub KeepsSlot : (Entry → Entry) → Forest Entry → Entry → Type 0
KeepsSlot w f u = Each (λ (e : Entry). is_at (w u).slot (w e) ≡ is_at u.slot e) (preorder f)

-- entries that stand in one line still do
pub in_line-renamed : (w : Entry → Entry) (f : Forest Entry) (u c : Entry) → KeepsSlot w f u → Contains (preorder f) c → AreInLine f u c → AreInLine (renamed w f) (w u) (w c)
in_line-renamed w f u c k h (inl e) =
    inl (let t : is_at (w u).slot (w c) ≡ is_at u.slot c = each-contained (λ (e : Entry). is_at (w u).slot (w e) ≡ is_at u.slot e) (preorder f) c k h in same (w c).slot (w u).slot c.slot u.slot t e)
  where
    same : (i j m n : ℕ) → (i == j) ≡ (m == n) → m ≡ n → i ≡ j
    same i j m n t e = grind (arith, nat_tests)
in_line-renamed w f u c k h (inr (inl m)) =
    inr (inl (let Q : Forest Entry → Type 0 = λ g. Contains (preorder g) (w c) in
    subst Q (sym (renamed-below_those w (is_at (w u).slot) f ∙ ap (renamed w) (below_those-agree (is_at u.slot) (λ e. is_at (w u).slot (w e)) f k)))
    (contains-renamed_old w (below_those (is_at u.slot) f) c m)))
in_line-renamed w f u c k h (inr (inr m)) =
    inr (inr (let Q : List Entry → Type 0 = λ l. Contains l (w c) in
    subst Q (sym (ancestors-renamed w (is_at (w u).slot) f ∙ ap (map w) (ancestors-agree (is_at u.slot) (λ e. is_at (w u).slot (w e)) f k)))
    (contains-map w (ancestors (is_at u.slot) f) c m)))

-- each object keeps its range, and each slot its place
pub disjoint-renamed : (p : ProfileName) (w : Entry → Entry) (f : Forest Entry) → IsDisjoint p f → ((e : Entry) → Contains (preorder f) e → IsAlike p e.cap (w e).cap)
    → ((u : Entry) → Contains (preorder f) u → KeepsSlot w f u) → IsDisjoint p (renamed w f)
disjoint-renamed p w f d alike keeps = record { objects = objects; lines = lines }
  where
    objects : (a b : Entry) → Contains (preorder (renamed w f)) a → Contains (preorder (renamed w f)) b → IsTrue (are_disjoint p a.cap b.cap)
    objects a b h k =
        let x : (a' : Entry) × Contains (preorder f) a' × (a ≡ w a') = contains-renamed w f a h in
        let y : (b' : Entry) × Contains (preorder f) b' × (b ≡ w b') = contains-renamed w f b k in
        let P : Entry → Type 0 = λ e. are_disjoint p e.cap b.cap ≡ true in
        let Q : Entry → Type 0 = λ e. are_disjoint p (w x.0).cap e.cap ≡ true in
        subst P (sym x.2) (subst Q (sym y.2) (sym (disjoint-alike p x.0.cap (w x.0).cap y.0.cap (w y.0).cap (alike x.0 x.1) (alike y.0 y.1)) ∙ d.objects x.0 y.0 x.1 y.1))

    both : (u c : Entry) → Contains (preorder f) u → Contains (preorder f) c → is_untyped (w u).cap ≡ true → contains p (w u).cap (w c).cap ≡ true → AreInLine (renamed w f) (w u) (w c)
    both u c h k t v =
        in_line-renamed w f u c (keeps u h) k
        (d.lines u c h k ((alike u h).untyped ∙ t) (contains-alike p u.cap (w u).cap c.cap (w c).cap (alike u h) (alike c k) ∙ v))

    lines : (u c : Entry) → Contains (preorder (renamed w f)) u → Contains (preorder (renamed w f)) c → IsTrue (is_untyped u.cap) → IsTrue (contains p u.cap c.cap) → AreInLine (renamed w f) u c
    lines u c h k t v =
        let x : (a' : Entry) × Contains (preorder f) a' × (u ≡ w a') = contains-renamed w f u h in
        let y : (b' : Entry) × Contains (preorder f) b' × (c ≡ w b') = contains-renamed w f c k in
        let P : Entry → Type 0 = λ e. is_untyped e.cap ≡ true → contains p e.cap c.cap ≡ true → AreInLine (renamed w f) e c in
        let Q : Entry → Type 0 = λ e. is_untyped (w x.0).cap ≡ true → contains p (w x.0).cap e.cap ≡ true → AreInLine (renamed w f) (w x.0) e in
        subst P (sym x.2) (subst Q (sym y.2) (both x.0 y.0 x.1 y.1)) t v

pub disjoint-freed : (p : ProfileName) (slot free : ℕ) (f : Forest Entry) → IsDisjoint p f → IsDisjoint p (freed slot free f)
disjoint-freed p slot free f d = disjoint-renamed p (freed_entry slot free) f d (λ e h. alike e) (λ u h. keeps u (preorder f))
  where
    alike : (e : Entry) → IsAlike p e.cap (freed_entry slot free e).cap
    alike e = elim (e.slot == slot) as (λ c. IsAlike p e.cap (cond c (entry e.slot (with_free free e.cap) e.original) e).cap) [ true ↦ alike_freed p free e.cap | false ↦ alike_self p e.cap ]

    keeps : (u : Entry) (l : List Entry) → Each (λ (e : Entry). is_at (freed_entry slot free u).slot (freed_entry slot free e) ≡ is_at u.slot e) l
    keeps u [] = tt
    keeps u (e ∷ l) = (ap (λ i. i == (freed_entry slot free u).slot) (slot-freed_entry slot free e) ∙ ap (λ j. e.slot == j) (slot-freed_entry slot free u), keeps u l)

pub disjoint-moved : (p : ProfileName) (source slot : ℕ) (cap : Cap) (f : Forest Entry) → IsDisjoint p f → IsDistinct eqb (slots f) → is_full slot f ≡ false
    → names_same (cap_at f source) cap ≡ true → IsDisjoint p (moved source slot cap f)
disjoint-moved p source slot cap f d distinct empty same =
    disjoint-renamed p (moved_entry source slot cap) f d alike (λ u h. keeps u (each-contained (λ (e : Entry). (e.slot == slot) ≡ false) (preorder f) u none h) (preorder f) none)
  where
    none : Each (λ (e : Entry). (e.slot == slot) ≡ false) (preorder f)
    none = none_stands slot (preorder f) empty

    at : (i : ℕ) → (i == source) ≡ true → i ≡ source
    at i t = grind (arith, nat_tests)

    alike : (e : Entry) → Contains (preorder f) e → IsAlike p e.cap (moved_entry source slot cap e).cap
    alike e h =
        (elim (e.slot == source) as (λ c. (e.slot == source) ≡ c → IsAlike p e.cap (cond c (entry slot cap e.original) e).cap) [
          | true ↦ λ t. alike_named p e.cap cap (ap (λ a. names_same a cap) (sym (cap-entry f e distinct h) ∙ ap (cap_at f) (at e.slot t)) ∙ same)
          | false ↦ λ t. alike_self p e.cap
        ]) refl

    slot_of : (y : Entry) → (moved_entry source slot cap y).slot ≡ cond (y.slot == source) slot y.slot
    slot_of y = elim (y.slot == source) as (λ c. (cond c (entry slot cap y.original) y).slot ≡ cond c slot y.slot) [ true ↦ refl | false ↦ refl ]

    agree : (i j : ℕ) → (i == slot) ≡ false → (j == slot) ≡ false → (cond (i == source) slot i == cond (j == source) slot j) ≡ (i == j)
    agree i j m n =
        (elim (i == source) as (λ c. (i == source) ≡ c → (cond c slot i == cond (j == source) slot j) ≡ (i == j)) [
          | true ↦ λ t. (elim (j == source) as (λ b. (j == source) ≡ b → (slot == cond b slot j) ≡ (i == j)) [ true ↦ λ u. both t u | false ↦ λ u. first t u ]) refl
          | false ↦ λ t. (elim (j == source) as (λ b. (j == source) ≡ b → (i == cond b slot j) ≡ (i == j)) [ true ↦ λ u. second t u | false ↦ λ u. refl ]) refl
        ]) refl
      where
        both : (i == source) ≡ true → (j == source) ≡ true → (slot == slot) ≡ (i == j)
        both t u = grind (arith, nat_tests)

        first : (i == source) ≡ true → (j == source) ≡ false → (slot == j) ≡ (i == j)
        first t u = grind (arith, nat_tests)

        second : (i == source) ≡ false → (j == source) ≡ true → (i == slot) ≡ (i == j)
        second t u = grind (arith, nat_tests)

    keeps : (u : Entry) → (u.slot == slot) ≡ false → (l : List Entry) → Each (λ (e : Entry). (e.slot == slot) ≡ false) l
        → Each (λ (e : Entry). is_at (moved_entry source slot cap u).slot (moved_entry source slot cap e) ≡ is_at u.slot e) l
    keeps u n [] k = tt
    keeps u n (e ∷ l) k =
        (ap (λ i. i == (moved_entry source slot cap u).slot) (slot_of e) ∙ ap (λ j. cond (e.slot == source) slot e.slot == j) (slot_of u) ∙ agree e.slot u.slot k.0 n, keeps u n l k.1)
