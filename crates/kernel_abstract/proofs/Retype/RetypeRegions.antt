-- The capability of a new object stands in the region of each that it is put below.
use Rattle.std.proofs.Common.{◌≡◌, ℕ, ◌+◌, ◌≤◌, Bool, true, false, cond, ◌&&◌, ◌==◌, eqb, nat_le, not, inl, inr, refl, sym, ◌∙◌, ap, subst, arith}
use Rattle.std.specs.List.{AllByRecursion as Each, Contains, IsDistinct}
use Rattle.std.proofs.lemmas.Bool.{and_parts}
use Rattle.std.proofs.lemmas.Bool.Decides.{nat_tests}
use Rattle.cap_core.specs.declared.profile.ProfileName.{ProfileName}
use Rattle.cap_core.specs.declared.capability.Cap.{Cap}
use Rattle.cap_core.specs.Objects.{is_null, is_untyped, base_of, end_of, same_object, contains, in_region}
use Rattle.kernel_forest.specs.Forest.{Forest, none, tree, preorder, join, below_those, descendants, below}
use Rattle.kernel_forest.specs.Entries.{Entry, entry, is_at, is_full, cap_at, slots}
use Rattle.kernel_forest.specs.Derivation.{retyped}
use Rattle.kernel_forest.proofs.Trees.Forests.{each-append, each-left_part, each-right_part, each-contained, each-from_contained, each-join, each-join_parts}
use Rattle.kernel_forest.proofs.Trees.Built.{Absent}
use Rattle.kernel_forest.proofs.Slots.Holding.{cap-entry, none_stands}
use Rattle.kernel_forest.proofs.Disjoint.Disjointness.{slot_differs, AreSame, are_same}
use Rattle.kernel_forest.proofs.Slots.Retyped.{contains-retyped}
use Rattle.kernel_abstract.specs.Regions.{free_of, IsUsedUp, AreRegions}
use Rattle.kernel_abstract.proofs.Capabilities.Descendants.{contains-below_those}
use Rattle.kernel_abstract.proofs.Capabilities.RegionsKept.{region_is}

-- what holds of each, and of x where it is put, holds of each after
each-below_where : {A : Type 0} (P : A → Type 0) (is : A → Bool) (x : A) (f : Forest A) → Each P (preorder f) → Each (λ a. is a ≡ true → P x) (preorder f) → Each P (preorder (below is x f))
each-below_where P is x none h g = tt
each-below_where {A} P is x (tree a k r) h g =
    let hk : Each P (preorder k) = each-left_part P (preorder k) (preorder r) h.1 in
    let hr : Each P (preorder r) = each-right_part P (preorder k) (preorder r) h.1 in
    let gk : Each (λ b. is b ≡ true → P x) (preorder k) = each-left_part (λ b. is b ≡ true → P x) (preorder k) (preorder r) g.1 in
    let gr : Each (λ b. is b ≡ true → P x) (preorder r) = each-right_part (λ b. is b ≡ true → P x) (preorder k) (preorder r) g.1 in
    (elim (is a) as (λ c. is a ≡ c → Each P (preorder (cond c (tree a (tree x none k) r) (tree a (below is x k) (below is x r))))) [
      | true ↦ λ t. (h.0, (g.0 t, each-append P (preorder k) (preorder r) hk hr))
      | false ↦ λ t. (h.0, each-append P (preorder (below is x k)) (preorder (below is x r)) (each-below_where P is x k hk gk) (each-below_where P is x r hr gr))
    ]) refl

-- the same of what stands below some, where x is put below them or below what stands there
each-descendants_put : {A : Type 0} (P : A → Type 0) (is q : A → Bool) (x : A) (f : Forest A) → q x ≡ false → Each P (preorder (below_those q f)) → Each (λ a. is a ≡ true → q a ≡ true → P x) (preorder f)
    → Each (λ a. is a ≡ true → P x) (preorder (below_those q f)) → Each P (preorder (below_those q (below is x f)))
each-descendants_put P is q x none e h g i = tt
each-descendants_put {A} P is q x (tree a k r) e h g i =
    let gk : Each (λ b. is b ≡ true → q b ≡ true → P x) (preorder k) = each-left_part (λ b. is b ≡ true → q b ≡ true → P x) (preorder k) (preorder r) g.1 in
    let gr : Each (λ b. is b ≡ true → q b ≡ true → P x) (preorder r) = each-right_part (λ b. is b ≡ true → q b ≡ true → P x) (preorder k) (preorder r) g.1 in
    (elim (is a) as (λ c. is a ≡ c → Each P (preorder (below_those q (cond c (tree a (tree x none k) r) (tree a (below is x k) (below is x r)))))) [
      | true ↦ λ t. (elim (q a) as (λ d. q a ≡ d → Each P (preorder (cond d k (join (below_those q k) (below_those q r)))) → Each P (preorder (cond d (tree x none k) (join (below_those q (tree x none k)) (below_those q r))))) [
        | true ↦ λ u m. (g.0 t u, m)
        | false ↦ λ u m. rw e m
      ]) refl h
      | false ↦ λ t. (elim (q a) as (λ d. Each P (preorder (cond d k (join (below_those q k) (below_those q r)))) → Each (λ b. is b ≡ true → P x) (preorder (cond d k (join (below_those q k) (below_those q r))))
          → Each P (preorder (cond d (below is x k) (join (below_those q (below is x k)) (below_those q (below is x r)))))) [
            | true ↦ λ m n. each-below_where P is x k m n
            | false ↦ λ m n.
                let b : Each P (preorder (below_those q k)) × Each P (preorder (below_those q r)) = each-join_parts P (below_those q k) (below_those q r) m in
                let c : Each (λ b. is b ≡ true → P x) (preorder (below_those q k)) × Each (λ b. is b ≡ true → P x) (preorder (below_those q r)) = each-join_parts (λ b. is b ≡ true → P x) (below_those q k) (below_those q r) n in
                each-join P (below_those q (below is x k)) (below_those q (below is x r)) (each-descendants_put P is q x k e b.0 gk c.0) (each-descendants_put P is q x r e b.1 gr c.1)
          ]) h i
    ]) refl

-- nothing stands below a new one
nothing_below : {A : Type 0} (q : A → Bool) (f : Forest A) → Absent q (preorder f) → below_those q f ≡ none
nothing_below q none h = refl
nothing_below q (tree a k r) h =
    rw (h.0, nothing_below q k (each-left_part (λ b. q b ≡ false) (preorder k) (preorder r) h.1), nothing_below q r (each-right_part (λ b. q b ≡ false) (preorder k) (preorder r) h.1))

below_those-new : {A : Type 0} (is q : A → Bool) (x : A) (f : Forest A) → q x ≡ true → Absent q (preorder f) → below_those q (below is x f) ≡ none
below_those-new is q x none e h = refl
below_those-new {A} is q x (tree a k r) e h =
    let hk : Absent q (preorder k) = each-left_part (λ b. q b ≡ false) (preorder k) (preorder r) h.1 in
    let hr : Absent q (preorder r) = each-right_part (λ b. q b ≡ false) (preorder k) (preorder r) h.1 in
    elim (is a) as (λ c. below_those q (cond c (tree a (tree x none k) r) (tree a (below is x k) (below is x r))) ≡ none) [
      | true ↦ rw (h.0, e, nothing_below q r hr)
      | false ↦ rw (h.0, below_those-new is q x k e hk, below_those-new is q x r e hr)
    ]

module _ (parent slot : ℕ) (cap : Cap) (f : Forest Entry) (distinct : IsDistinct eqb (slots f)) (empty : is_full slot f ≡ false) where
  same : (i j : ℕ) → (i == j) ≡ true → i ≡ j
  same i j t = grind (arith, nat_tests)

  held : (e : Entry) → Contains (preorder f) e → (e.slot == parent) ≡ true → cap_at f parent ≡ e.cap
  held e m t = ap (cap_at f) (sym (same e.slot parent t)) ∙ cap-entry f e distinct m

  -- what holds of each that stood below an entry, and of the new one where that entry is the parent or stands above it
  pub descendants-retyped : (P : Entry → Type 0) (a : Entry) → Contains (preorder f) a → ((d : Entry) → Contains (descendants (is_at a.slot) f) d → P d) → (cap_at f parent ≡ a.cap → P (entry slot cap true))
      → ((e : Entry) → Contains (descendants (is_at a.slot) f) e → cap_at f parent ≡ e.cap → P (entry slot cap true))
      → (d : Entry) → Contains (descendants (is_at a.slot) (retyped parent slot cap f)) d → P d
  descendants-retyped P a ma old at under d m =
      each-contained P (descendants (is_at a.slot) (retyped parent slot cap f)) d
      (each-descendants_put P (is_at parent) (is_at a.slot) (entry slot cap true) f (slot_differs slot f a empty ma)
      (each-from_contained P (descendants (is_at a.slot) f) old)
      (each-from_contained (λ (e : Entry). is_at parent e ≡ true → is_at a.slot e ≡ true → P (entry slot cap true)) (preorder f)
      (λ e k t u. at (held a ma (ap (λ i. i == parent) (sym (same e.slot a.slot u)) ∙ t))))
      (each-from_contained (λ (e : Entry). is_at parent e ≡ true → P (entry slot cap true)) (descendants (is_at a.slot) f)
      (λ e k t. under e k (held e (contains-below_those (is_at a.slot) f e k) t)))) m

  -- and nothing stands below the new one
  bare-retyped : (d : Entry) → Contains (descendants (is_at slot) (retyped parent slot cap f)) d → ⊥
  bare-retyped d m =
      let none_there : below_those (is_at slot) (below (is_at parent) (entry slot cap true) f) ≡ none = below_those-new (is_at parent) (is_at slot) (entry slot cap true) f (number slot) (none_stands slot (preorder f) empty) in
      let Q : Forest Entry → Type 0 = λ g. Contains (preorder g) d in
      bare (subst Q none_there m)
    where
      number : (i : ℕ) → (i == i) ≡ true
      number i = grind (arith, nat_tests)

      bare : Contains (preorder none) d → ⊥
      bare n = omega (arith, n.1)

parent_region : (p : ProfileName) (a c : Cap) → is_untyped a ≡ true → is_null c ≡ false → contains p a c ≡ true → in_region p a c ≡ true
parent_region p a c u n w = region_is p a c ∙ rw (u, n, w) refl

end_within : (p : ProfileName) (a c : Cap) → contains p a c ≡ true → end_of p c ≤ end_of p a
end_within p a c h = step (base_of a) (base_of c) (end_of p c) (end_of p a) h
  where
    step : (i j m n : ℕ) → (nat_le i j && nat_le m n) ≡ true → m ≤ n
    step i j m n h = grind (arith, nat_tests)

-- what has an untyped one in its region is an untyped one around it
pub region_around : (p : ProfileName) (a b : Cap) → in_region p a b ≡ true → is_untyped b ≡ true → (is_untyped a ≡ true) × (contains p a b ≡ true)
region_around p a b h untyped =
    (elim (is_untyped a) as (λ u. is_untyped a ≡ u → cond u (not (is_null b) && contains p a b) (same_object a b) ≡ true → (u ≡ true) × (contains p a b ≡ true)) [
      | true ↦ λ e k. (refl, (and_parts (not (is_null b)) (contains p a b) k).1)
      | false ↦ λ e k. absurd (let s : AreSame p a b = are_same p a b k in let n : is_untyped b ≡ false = s.second in cc)
    ]) refl (sym (region_is p a b) ∙ h)

contains-through : (p : ProfileName) (a b c : Cap) → contains p a b ≡ true → contains p b c ≡ true → contains p a c ≡ true
contains-through p a b c g h = inner (base_of a) (base_of b) (base_of c) (end_of p a) (end_of p b) (end_of p c) g h
  where
    inner : (i j k l m n : ℕ) → (nat_le i j && nat_le m l) ≡ true → (nat_le j k && nat_le n m) ≡ true → (nat_le i k && nat_le n l) ≡ true
    inner i j k l m n g h = grind (arith, nat_tests)

region_through : (p : ProfileName) (a b c : Cap) → in_region p a b ≡ true → is_untyped b ≡ true → contains p b c ≡ true → is_null c ≡ false → in_region p a c ≡ true
region_through p a b c h untyped within some =
    let around : (is_untyped a ≡ true) × (contains p a b ≡ true) = region_around p a b h untyped in
    parent_region p a c around.0 some (contains-through p a b c around.1 within)

-- a new object in the used part of an untyped region keeps the regions
pub regions-retyped : (p : ProfileName) (parent slot : ℕ) (cap : Cap) (f : Forest Entry) → AreRegions p f → IsDistinct eqb (slots f) → is_full slot f ≡ false
    → is_untyped (cap_at f parent) ≡ true → contains p (cap_at f parent) cap ≡ true → is_null cap ≡ false
    → end_of p cap ≤ base_of (cap_at f parent) + free_of (cap_at f parent) → AreRegions p (retyped parent slot cap f)
regions-retyped p parent slot cap f r distinct empty untyped within some ends = record { original = original; below = below_it; used = used }
  where
    original : (u : Entry) → Contains (preorder (retyped parent slot cap f)) u → is_untyped u.cap ≡ true → u.original ≡ true
    original u m t =
        elim (contains-retyped parent slot cap f u m) [
          | inl n ↦ r.original u n t
          | inr e ↦ let Q : Entry → Type 0 = λ y. y.original ≡ true in subst Q e refl
        ]

    region : in_region p (cap_at f parent) cap ≡ true
    region = parent_region p (cap_at f parent) cap untyped some within

    below_it : (a d : Entry) → Contains (preorder (retyped parent slot cap f)) a → Contains (descendants (is_at a.slot) (retyped parent slot cap f)) d → in_region p a.cap d.cap ≡ true
    below_it a d m n =
        elim (contains-retyped parent slot cap f a m) [
          | inl k ↦ descendants-retyped parent slot cap f distinct empty (λ (e : Entry). in_region p a.cap e.cap ≡ true) a k (λ c i. r.below a c k i)
              (λ e. ap (λ c. in_region p c cap) (sym e) ∙ region)
              (λ e i c. region_through p a.cap e.cap cap (r.below a e k i) (ap is_untyped (sym c) ∙ untyped) (ap (λ b. contains p b cap) (sym c) ∙ within) some) d n
          | inr e ↦ absurd (let Q : Entry → Type 0 = λ y. Contains (descendants (is_at y.slot) (retyped parent slot cap f)) d in bare-retyped parent slot cap f distinct empty d (subst Q (sym e) n))
        ]

    used : IsUsedUp p (retyped parent slot cap f)
    used u d m t n =
        elim (contains-retyped parent slot cap f u m) [
          | inl k ↦ descendants-retyped parent slot cap f distinct empty (λ (e : Entry). end_of p e.cap ≤ base_of u.cap + free_of u.cap) u k (λ c i. r.used u c k t i)
              (λ e. let B : Cap → Type 0 = λ c. end_of p cap ≤ base_of c + free_of c in subst B e ends)
              (λ e i c. let last : end_of p e.cap ≤ base_of u.cap + free_of u.cap = r.used u e k t i in
              let w : contains p e.cap cap ≡ true = ap (λ b. contains p b cap) (sym c) ∙ within in
              let inner : end_of p cap ≤ end_of p e.cap = end_within p e.cap cap w in
              omega arith) d n
          | inr e ↦ absurd (let Q : Entry → Type 0 = λ y. Contains (descendants (is_at y.slot) (retyped parent slot cap f)) d in bare-retyped parent slot cap f distinct empty d (subst Q (sym e) n))
        ]
