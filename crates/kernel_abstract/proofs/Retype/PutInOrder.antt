-- Capabilities of new objects that are put one after another below their untyped.
use Rattle.std.proofs.Common.{◌≡◌, ◌≢◌, ℕ, ◌+◌, ◌^◌, ◌≤◌, ◌<◌, Bool, true, false, cond, ◌||◌, ◌&&◌, ◌==◌, eqb, nat_le, List, [], ◌∷◌, inl, inr, refl, sym, ◌∙◌, ap, subst, arith}
use Rattle.std.specs.List.{AllByRecursion as Each, Contains, list_any, IsDistinct}
use Rattle.std.proofs.Math.Nat.{one-le-pow}
use Rattle.std.proofs.lemmas.Bool.Decides.{nat_tests}
use Rattle.cap_core.specs.declared.profile.ProfileName.{ProfileName}
use Rattle.cap_core.specs.declared.capability.Cap.{Cap}
use Rattle.cap_core.specs.Objects.{is_untyped, base_of, bits_of, end_of, same_object, contains, in_region, IsLawful}
use Rattle.kernel_forest.specs.Forest.{Forest, none, tree, preorder, has, below_those, descendants, ancestors}
use Rattle.kernel_forest.specs.Entries.{Entry, entry, is_at, is_full, cap_at, slots}
use Rattle.kernel_forest.specs.Derivation.{retyped, is_named}
use Rattle.kernel_forest.specs.Disjoint.{IsDisjoint}
use Rattle.kernel_forest.proofs.Trees.Forests.{each-left_part, each-right_part, each-weaker, each-contained, each-contains, each-from_contained}
use Rattle.kernel_forest.proofs.Slots.Edits.{entry_at}
use Rattle.kernel_forest.proofs.Trees.Lines.{ancestors-descend}
use Rattle.kernel_forest.proofs.Slots.Distinct.{once_at}
use Rattle.kernel_forest.proofs.Slots.Holding.{cap-entry}
use Rattle.kernel_forest.proofs.Disjoint.Disjointness.{AreSame, are_same}
use Rattle.kernel_forest.proofs.Disjoint.DisjointRetyped.{disjoint-retyped}
use Rattle.kernel_forest.proofs.Slots.Retyped.{full-retyped, cap-retyped_other, distinct-retyped, each-retyped}
use Rattle.kernel_abstract.specs.Regions.{free_of, AreRegions}
use Rattle.kernel_abstract.specs.Memory.{IsSlotAddress}
use Rattle.kernel_abstract.specs.Retyping.{with_new}
use Rattle.kernel_abstract.proofs.Capabilities.Descendants.{contains-below_those}
use Rattle.kernel_abstract.proofs.Retype.LiveRetyped.{untyped_full}
use Rattle.kernel_abstract.proofs.Retype.RetypeRegions.{descendants-retyped, regions-retyped, region_around}

-- a capability for an empty slot, of an object in the used part of an untyped region
pub record IsNew (p : ProfileName) (memory : ℕ) (parent : Cap) (f : Forest Entry) (put : ℕ × Cap) : Type 0 where
  pub placed : IsSlotAddress p memory put.0
  pub empty : is_full put.0 f ≡ false
  pub lawful : IsLawful p memory put.1
  pub within : contains p parent put.1 ≡ true
  pub used : end_of p put.1 ≤ base_of parent + free_of parent

-- each object stands behind those in front of it, and each slot is another
abbrev pub AreInOrder : ProfileName → List (ℕ × Cap) → Type 0
AreInOrder p [] = Unit {0}
AreInOrder p (put ∷ puts) = Each (λ (next : ℕ × Cap). (end_of p put.1 ≤ base_of next.1) × ((put.0 == next.0) ≡ false)) puts × AreInOrder p puts

-- the capabilities can be put below the untyped: what stands below it ends in front of them
pub record CanMake (p : ProfileName) (memory untyped : ℕ) (puts : List (ℕ × Cap)) (f : Forest Entry) : Type 0 where
  pub untyped_is : is_untyped (cap_at f untyped) ≡ true
  pub regions : AreRegions p f
  pub disjoint : IsDisjoint p f
  pub distinct : IsDistinct eqb (slots f)
  pub ends : (c : Entry) → Contains (descendants (is_at untyped) f) c → Each (λ (put : ℕ × Cap). end_of p c.cap ≤ base_of put.1) puts
  pub new : Each (IsNew p memory (cap_at f untyped) f) puts
  pub order : AreInOrder p puts

-- what `put_new` receives
pub record IsPutNew (p : ProfileName) (memory untyped slot : ℕ) (cap : Cap) (f : Forest Entry) : Type 0 where
  pub parent : is_untyped (cap_at f untyped) ≡ true
  pub contains_is : contains p (cap_at f untyped) cap ≡ true
  pub within : slot < 2 ^ memory
  pub empty : is_full slot f ≡ false
  pub lawful : IsLawful p memory cap
  pub unnamed : is_named cap f ≡ false
  pub disjoint : IsDisjoint p (retyped untyped slot cap f)

each-ancestors : {A : Type 0} (P : A → Type 0) (q : A → Bool) (f : Forest A) → Each P (preorder f) → Each P (ancestors q f)
each-ancestors P q none h = tt
each-ancestors {A} P q (tree a k r) h =
    let hk : Each P (preorder k) = each-left_part P (preorder k) (preorder r) h.1 in
    let hr : Each P (preorder r) = each-right_part P (preorder k) (preorder r) h.1 in
    elim (has q k) as (λ c. Each P (cond c (a ∷ ancestors q k) (ancestors q r))) [ true ↦ (h.0, each-ancestors P q k hk) | false ↦ each-ancestors P q r hr ]

number : (i : ℕ) → (i == i) ≡ true
number i = grind (arith, nat_tests)

-- what stands above an untyped one is an untyped one around it
above_untyped : (p : ProfileName) (slot : ℕ) (f : Forest Entry) → AreRegions p f → IsDistinct eqb (slots f) → is_untyped (cap_at f slot) ≡ true
    → (a : Entry) → Contains (ancestors (is_at slot) f) a → (is_untyped a.cap ≡ true) × (contains p a.cap (cap_at f slot) ≡ true)
above_untyped p slot f r distinct untyped a m =
    let there : Contains (preorder f) a = each-contained (Contains (preorder f)) (ancestors (is_at slot) f) a (each-ancestors (Contains (preorder f)) (is_at slot) f (each-contains (preorder f))) m in
    let i : list_any (is_at slot) (descendants (is_at a.slot) f) ≡ true =
    each-contained (λ (y : Entry). is_at a.slot y ≡ true → list_any (is_at slot) (descendants (is_at a.slot) f) ≡ true) (ancestors (is_at slot) f) a
    (ancestors-descend (is_at slot) (is_at a.slot) f (once_at a.slot (preorder f) distinct)) m (number a.slot) in
    let e : (e : Entry) × Contains (descendants (is_at a.slot) f) e × (e.slot ≡ slot) × (e.cap ≡ cap_at (below_those (is_at a.slot) f) slot) = entry_at slot (below_those (is_at a.slot) f) i in
    let c : cap_at f slot ≡ e.0.cap = ap (cap_at f) (sym e.2) ∙ cap-entry f e.0 distinct (contains-below_those (is_at a.slot) f e.0 e.1) in
    region_around p a.cap (cap_at f slot) (ap (in_region p a.cap) c ∙ r.below a e.0 there e.1) untyped

none_such : (q : Entry → Bool) (l : List Entry) → Each (λ (e : Entry). q e ≡ true → ⊥) l → list_any q l ≡ false
none_such q [] h = refl
none_such q (e ∷ l) h =
    (elim (q e) as (λ b. q e ≡ b → (b || list_any q l) ≡ false) [
      | true ↦ λ t. absurd (h.0 t)
      | false ↦ λ t. none_such q l h.1
    ]) refl

-- no slot names an object that stands in an untyped region behind all that stands below it
pub unnamed_new : (p : ProfileName) (untyped : ℕ) (cap : Cap) (f : Forest Entry) → AreRegions p f → IsDisjoint p f → IsDistinct eqb (slots f) → is_untyped (cap_at f untyped) ≡ true
    → contains p (cap_at f untyped) cap ≡ true → ((c : Entry) → Contains (descendants (is_at untyped) f) c → end_of p c.cap ≤ base_of cap) → is_named cap f ≡ false
unnamed_new p untyped cap f r d distinct is_region within ends = none_such (λ (e : Entry). same_object e.cap cap) (preorder f) (each-from_contained (λ (e : Entry). same_object e.cap cap ≡ true → ⊥) (preorder f) differs)
  where
    s : (s : Entry) × Contains (preorder f) s × (s.slot ≡ untyped) × (s.cap ≡ cap_at f untyped)
    s = entry_at untyped f (untyped_full untyped f is_region)

    differs : (e : Entry) → Contains (preorder f) e → same_object e.cap cap ≡ true → ⊥
    differs e m t = elim (d.lines s.0 e s.1 m (ap is_untyped s.3 ∙ is_region) around) [
      | inl i ↦ (let c : cap_at f untyped ≡ e.cap = ap (cap_at f) (sym (i ∙ s.2)) ∙ cap-entry f e distinct m in
          let u : is_untyped e.cap ≡ true = ap is_untyped (sym c) ∙ is_region in
          let n : is_untyped e.cap ≡ false = same.first in cc)
      | inr (inl n) ↦ (let R : ℕ → Type 0 = λ i. Contains (descendants (is_at i) f) e in
          let last : end_of p e.cap ≤ base_of cap = ends e (subst R s.2 n) in
          let base : base_of e.cap ≡ base_of cap = same.base in
          let pos : 1 ≤ 2 ^ bits_of p e.cap = one-le-pow (bits_of p e.cap) 2 (omega arith) in
          omega arith)
      | inr (inr n) ↦ (let R : ℕ → Type 0 = λ i. Contains (ancestors (is_at i) f) e in
          let u : is_untyped e.cap ≡ true = (above_untyped p untyped f r distinct is_region e (subst R s.2 n)).0 in
          let n : is_untyped e.cap ≡ false = same.first in cc)
    ]
      where
        same : AreSame p e.cap cap
        same = are_same p e.cap cap t

        around : contains p s.0.cap e.cap ≡ true
        around = ap (λ c. contains p c e.cap) s.3 ∙ alike (base_of e.cap) (base_of cap) (bits_of p e.cap) (bits_of p cap) same.base same.bits within
          where
            alike : (i j m n : ℕ) → i ≡ j → m ≡ n → (nat_le (base_of (cap_at f untyped)) j && nat_le (j + 2 ^ n) (end_of p (cap_at f untyped))) ≡ true
                → (nat_le (base_of (cap_at f untyped)) i && nat_le (i + 2 ^ m) (end_of p (cap_at f untyped))) ≡ true
            alike i j m n e g h = rw (e, g) h

-- the first can be put, and then the others

pub first_new : (p : ProfileName) (memory untyped : ℕ) (put : ℕ × Cap) (puts : List (ℕ × Cap)) (f : Forest Entry) → CanMake p memory untyped (put ∷ puts) f → IsPutNew p memory untyped put.0 put.1 f
first_new p memory untyped put puts f h =
    record {
      parent = h.untyped_is;
      contains_is = h.new.0.within;
      within = h.new.0.placed.within;
      empty = h.new.0.empty;
      lawful = h.new.0.lawful;
      unnamed = unnamed_new p untyped put.1 f h.regions h.disjoint h.distinct h.untyped_is h.new.0.within (λ c m. (h.ends c m).0);
      disjoint = disjoint-retyped p untyped put.0 put.1 f h.disjoint h.distinct (untyped_full untyped f h.untyped_is) h.new.0.empty h.untyped_is h.new.0.within h.new.0.lawful.full (λ c m. (h.ends c m).0)
          (above_untyped p untyped f h.regions h.distinct h.untyped_is);
    }

full_differs : (a b : ℕ) (f : Forest Entry) → is_full a f ≡ true → is_full b f ≡ false → a ≢ b
full_differs a b f h k e = let n : is_full a f ≡ false = ap (λ i. is_full i f) e ∙ k in cc

pub other_new : (p : ProfileName) (memory untyped : ℕ) (put : ℕ × Cap) (puts : List (ℕ × Cap)) (f : Forest Entry) → CanMake p memory untyped (put ∷ puts) f
    → CanMake p memory untyped puts (retyped untyped put.0 put.1 f)
other_new p memory untyped put puts f h =
    record {
      untyped_is = ap is_untyped kept ∙ h.untyped_is;
      regions = regions-retyped p untyped put.0 put.1 f h.regions h.distinct h.new.0.empty h.untyped_is h.new.0.within h.new.0.lawful.full h.new.0.used;
      disjoint = (first_new p memory untyped put puts f h).disjoint;
      distinct = distinct-retyped untyped put.0 put.1 f h.distinct full h.new.0.empty;
      ends = ends;
      new = both puts h.new.1 h.order.0;
      order = h.order.1;
    }
  where
    full : is_full untyped f ≡ true
    full = untyped_full untyped f h.untyped_is

    kept : cap_at (retyped untyped put.0 put.1 f) untyped ≡ cap_at f untyped
    kept = cap-retyped_other untyped untyped put.0 put.1 f (full_differs untyped put.0 f full h.new.0.empty)

    behind : Each (λ (next : ℕ × Cap). end_of p put.1 ≤ base_of next.1) puts
    behind = each-weaker (λ (next : ℕ × Cap). (end_of p put.1 ≤ base_of next.1) × ((put.0 == next.0) ≡ false)) (λ (next : ℕ × Cap). end_of p put.1 ≤ base_of next.1) (λ next o. o.0) puts h.order.0

    s : (s : Entry) × Contains (preorder f) s × (s.slot ≡ untyped) × (s.cap ≡ cap_at f untyped)
    s = entry_at untyped f full

    ends : (c : Entry) → Contains (descendants (is_at untyped) (retyped untyped put.0 put.1 f)) c → Each (λ (next : ℕ × Cap). end_of p c.cap ≤ base_of next.1) puts
    ends c m =
        let R : ℕ → Type 0 = λ i. Contains (descendants (is_at i) (retyped untyped put.0 put.1 f)) c in
        let S : ℕ → Entry → Type 0 = λ i e. Contains (descendants (is_at i) f) e in
        descendants-retyped untyped put.0 put.1 f h.distinct h.new.0.empty (λ (e : Entry). Each (λ (next : ℕ × Cap). end_of p e.cap ≤ base_of next.1) puts) s.0 s.1
        (λ e n. (h.ends e (let T : ℕ → Type 0 = λ i. S i e in subst T s.2 n)).1) (λ e. behind) (λ e n k. behind) c (subst R (sym s.2) m)

    one : (next : ℕ × Cap) → IsNew p memory (cap_at f untyped) f next → (put.0 == next.0) ≡ false → IsNew p memory (cap_at (retyped untyped put.0 put.1 f) untyped) (retyped untyped put.0 put.1 f) next
    one next n apart =
        let C : Cap → Type 0 = λ c. IsNew p memory c (retyped untyped put.0 put.1 f) next in
        subst C (sym kept)
        (record {
          placed = n.placed;
          empty = full-retyped next.0 untyped put.0 put.1 f full ∙ rw (n.empty, apart) refl;
          lawful = n.lawful;
          within = n.within;
          used = n.used;
        })

    both : (l : List (ℕ × Cap)) → Each (IsNew p memory (cap_at f untyped) f) l → Each (λ (next : ℕ × Cap). (end_of p put.1 ≤ base_of next.1) × ((put.0 == next.0) ≡ false)) l
        → Each (IsNew p memory (cap_at (retyped untyped put.0 put.1 f) untyped) (retyped untyped put.0 put.1 f)) l
    both [] n o = tt
    both (next ∷ l) n o = (one next n.0 o.0.1, both l n.1 o.1)

-- all can be put

pub all_new : (p : ProfileName) (memory untyped : ℕ) (puts : List (ℕ × Cap)) (f : Forest Entry) → CanMake p memory untyped puts f → CanMake p memory untyped [] (with_new untyped puts f)
all_new p memory untyped [] f h = h
all_new p memory untyped (put ∷ puts) f h = all_new p memory untyped puts (retyped untyped put.0 put.1 f) (other_new p memory untyped put puts f h)

-- what holds of each entry and of each that is put holds of all
pub each-with_new : (P : Entry → Type 0) (untyped : ℕ) (puts : List (ℕ × Cap)) (f : Forest Entry) → Each P (preorder f) → Each (λ (put : ℕ × Cap). P (entry put.0 put.1 true)) puts
    → Each P (preorder (with_new untyped puts f))
each-with_new P untyped [] f h g = h
each-with_new P untyped (put ∷ puts) f h g = each-with_new P untyped puts (retyped untyped put.0 put.1 f) (each-retyped P untyped put.0 put.1 f h g.0) g.1
