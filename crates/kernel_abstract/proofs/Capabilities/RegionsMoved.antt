-- A tree of its own and a move keep what stands below a capability in its region.
use Rattle.std.proofs.Common.{◌≡◌, ◌≤◌, ◌+◌, ℕ, true, false, cond, ◌==◌, eqb, List, [], ◌∷◌, inl, inr, refl, sym, ◌∙◌, ap, subst, arith}
use Rattle.std.specs.List.{AllByRecursion as Each, Contains, IsDistinct}
use Rattle.std.proofs.lemmas.Bool.Decides.{nat_tests}
use Rattle.cap_core.specs.declared.profile.ProfileName.{ProfileName}
use Rattle.cap_core.specs.declared.capability.Cap.{Cap}
use Rattle.cap_core.specs.Objects.{is_null, is_untyped, in_region, base_of, end_of}
use Rattle.kernel_forest.specs.Forest.{Forest, none, preorder, descendants}
use Rattle.kernel_forest.specs.Entries.{Entry, entry, is_at, is_full, cap_at, slots}
use Rattle.kernel_forest.specs.Derivation.{rooted, moved, names_same}
use Rattle.kernel_forest.proofs.Trees.Forests.{each-contained, below_those-root}
use Rattle.kernel_forest.proofs.Trees.Built.{below_those_none}
use Rattle.kernel_forest.proofs.Slots.Edits.{contains-rooted}
use Rattle.kernel_forest.proofs.Disjoint.Alike.{IsAlike, alike_self, alike_named}
use Rattle.kernel_forest.proofs.Slots.Moved.{moved_entry}
use Rattle.kernel_forest.proofs.Slots.Holding.{cap-entry, none_stands}
use Rattle.kernel_abstract.specs.declared.invocation.CapPlacement.{CapPlacement}
use Rattle.kernel_abstract.specs.CNodes.{with_moved}
use Rattle.kernel_abstract.specs.Regions.{free_of, AreRegions}
use Rattle.kernel_abstract.proofs.Capabilities.RegionsKept.{KeepsEntries, original-renamed, below-renamed, used-renamed}
use Rattle.kernel_abstract.proofs.Capabilities.RegionsDerived.{named_some}

nothing : (d : Entry) → Contains (preorder {A = Entry} none) d → ⊥
nothing d n = omega (arith, n.1)

pub regions-none : (p : ProfileName) → AreRegions p none
regions-none p = record {
  original = λ u m t. absurd (nothing u m);
  below = λ a d m n. absurd (nothing a m);
  used = λ u d m t n. absurd (nothing u m);
}

-- what is rooted stands below nothing, and nothing below it
pub regions-rooted : (p : ProfileName) (slot : ℕ) (cap : Cap) (f : Forest Entry) → AreRegions p f → is_full slot f ≡ false → AreRegions p (rooted slot cap f)
regions-rooted p slot cap f r empty = record { original = original; below = below; used = used }
  where
    old : (a d : Entry) → Contains (descendants (is_at a.slot) (rooted slot cap f)) d → Contains (descendants (is_at a.slot) f) d
    old a d m = let Q : Forest Entry → Type 0 = λ g. Contains (preorder g) d in subst Q (below_those-root (is_at a.slot) (entry slot cap true) f) m

    bare : (a d : Entry) → entry slot cap true ≡ a → Contains (descendants (is_at a.slot) (rooted slot cap f)) d → ⊥
    bare a d e m =
        let S : Entry → Type 0 = λ y. Contains (descendants (is_at y.slot) f) d in
        let Q : Forest Entry → Type 0 = λ g. Contains (preorder g) d in
        nothing d (subst Q (below_those_none (is_at slot) f (none_stands slot (preorder f) empty)) (subst S (sym e) (old a d m)))

    original : (u : Entry) → Contains (preorder (rooted slot cap f)) u → is_untyped u.cap ≡ true → u.original ≡ true
    original u m t =
        elim (contains-rooted slot cap f u m) [
          | inl k ↦ r.original u k t
          | inr e ↦ let Q : Entry → Type 0 = λ y. y.original ≡ true in subst Q e refl
        ]

    below : (a d : Entry) → Contains (preorder (rooted slot cap f)) a → Contains (descendants (is_at a.slot) (rooted slot cap f)) d → in_region p a.cap d.cap ≡ true
    below a d m n = elim (contains-rooted slot cap f a m) [ inl k ↦ r.below a d k (old a d n) | inr e ↦ absurd (bare a d e n) ]

    used : (u d : Entry) → Contains (preorder (rooted slot cap f)) u → is_untyped u.cap ≡ true → Contains (descendants (is_at u.slot) (rooted slot cap f)) d → end_of p d.cap ≤ base_of u.cap + free_of u.cap
    used u d m t n = elim (contains-rooted slot cap f u m) [ inl k ↦ r.used u d k t (old u d n) | inr e ↦ absurd (bare u d e n) ]

-- a move changes a slot, and a capability to another of its object
module _ (p : ProfileName) (source slot : ℕ) (cap : Cap) (f : Forest Entry) (distinct : IsDistinct eqb (slots f)) (empty : is_full slot f ≡ false) (same : names_same (cap_at f source) cap ≡ true) where
  at : (i : ℕ) → (i == source) ≡ true → i ≡ source
  at i t = grind (arith, nat_tests)

  held : (e : Entry) → Contains (preorder f) e → (e.slot == source) ≡ true → cap_at f source ≡ e.cap
  held e m t = ap (cap_at f) (sym (at e.slot t)) ∙ cap-entry f e distinct m

  free_here : Each (λ (e : Entry). (e.slot == slot) ≡ false) (preorder f)
  free_here = none_stands slot (preorder f) empty

  slot_of : (y : Entry) → (moved_entry source slot cap y).slot ≡ cond (y.slot == source) slot y.slot
  slot_of y = elim (y.slot == source) as (λ c. (cond c (entry slot cap y.original) y).slot ≡ cond c slot y.slot) [ true ↦ refl | false ↦ refl ]

  -- slots that are none of the new one stay equal, or differ
  agree : (i j : ℕ) → (i == slot) ≡ false → (j == slot) ≡ false → (cond (i == source) slot i == cond (j == source) slot j) ≡ (i == j)
  agree i j m n =
      (elim (i == source) as (λ c. (i == source) ≡ c → (cond c slot i == cond (j == source) slot j) ≡ (i == j)) [
        | true ↦ λ t. (elim (j == source) as (λ b. (j == source) ≡ b → (slot == cond b slot j) ≡ (i == j)) [ true ↦ λ u. both t u | false ↦ λ u. first t u ]) refl
        | false ↦ λ t. (elim (j == source) as (λ b. (j == source) ≡ b → (i == cond b slot j) ≡ (i == j)) [ true ↦ λ u. second t u | false ↦ λ u. refl ]) refl
      ]) refl
    where
      both : (i == source) ≡ true → (j == source) ≡ true → (slot == slot) ≡ (i == j)
      both t u = grind (arith, nat_tests)

      first : (i == source) ≡ true → (j == source) ≡ false → (slot == j) ≡ (i == j)
      first t u = grind (arith, nat_tests)

      second : (i == source) ≡ false → (j == source) ≡ true → (i == slot) ≡ (i == j)
      second t u = grind (arith, nat_tests)

  keeps_slots : (u : Entry) → (u.slot == slot) ≡ false → (l : List Entry) → Each (λ (e : Entry). (e.slot == slot) ≡ false) l
      → Each (λ (e : Entry). is_at (moved_entry source slot cap u).slot (moved_entry source slot cap e) ≡ is_at u.slot e) l
  keeps_slots u n [] k = tt
  keeps_slots u n (e ∷ l) k =
      (ap (λ i. i == (moved_entry source slot cap u).slot) (slot_of e) ∙ ap (λ j. cond (e.slot == source) slot e.slot == j) (slot_of u) ∙ agree e.slot u.slot k.0 n, keeps_slots u n l k.1)

  keeps-moved : KeepsEntries p (moved_entry source slot cap) f
  keeps-moved = record { alike = alike; null = null; original = original; slots = λ u m. keeps_slots u (each-contained (λ (e : Entry). (e.slot == slot) ≡ false) (preorder f) u free_here m) (preorder f) free_here }
    where
      alike : (e : Entry) → Contains (preorder f) e → IsAlike p e.cap (moved_entry source slot cap e).cap
      alike e m =
          (elim (e.slot == source) as (λ c. (e.slot == source) ≡ c → IsAlike p e.cap (cond c (entry slot cap e.original) e).cap) [
            | true ↦ λ t. alike_named p e.cap cap (ap (λ a. names_same a cap) (sym (held e m t)) ∙ same)
            | false ↦ λ t. alike_self p e.cap
          ]) refl

      null : (e : Entry) → Contains (preorder f) e → is_null e.cap ≡ is_null (moved_entry source slot cap e).cap
      null e m =
          (elim (e.slot == source) as (λ c. (e.slot == source) ≡ c → is_null e.cap ≡ is_null (cond c (entry slot cap e.original) e).cap) [
            | true ↦ λ t. ap is_null (sym (held e m t)) ∙ (named_some (cap_at f source) cap same).0 ∙ sym (named_some (cap_at f source) cap same).1
            | false ↦ λ t. refl
          ]) refl

      original : (e : Entry) → (moved_entry source slot cap e).original ≡ e.original
      original e = elim (e.slot == source) as (λ c. (cond c (entry slot cap e.original) e).original ≡ e.original) [ true ↦ refl | false ↦ refl ]

  pub regions-moved : AreRegions p f → free_of cap ≡ free_of (cap_at f source) → AreRegions p (moved source slot cap f)
  regions-moved r free = record {
    original = original-renamed p (moved_entry source slot cap) f keeps-moved r.original;
    below = below-renamed p (moved_entry source slot cap) f keeps-moved r.below;
    used = used-renamed p (moved_entry source slot cap) f keeps-moved used;
  }
    where
      free_is : (u : Entry) → Contains (preorder f) u → free_of u.cap ≡ free_of (moved_entry source slot cap u).cap
      free_is u m =
          (elim (u.slot == source) as (λ c. (u.slot == source) ≡ c → free_of u.cap ≡ free_of (cond c (entry slot cap u.original) u).cap) [
            | true ↦ λ t. ap free_of (sym (held u m t)) ∙ sym free
            | false ↦ λ t. refl
          ]) refl

      used : (u d : Entry) → Contains (preorder f) u → is_untyped u.cap ≡ true → Contains (descendants (is_at u.slot) f) d → end_of p d.cap ≤ base_of u.cap + free_of (moved_entry source slot cap u).cap
      used u d m t n = let F : ℕ → Type 0 = λ i. end_of p d.cap ≤ base_of u.cap + i in subst F (free_is u m) (r.used u d m t n)

pub regions-with_moved : (p : ProfileName) (placement : CapPlacement) (f : Forest Entry) → AreRegions p f → IsDistinct eqb (slots f) → is_full placement.slot f ≡ false
    → names_same (cap_at f placement.source) placement.cap ≡ true → free_of placement.cap ≡ free_of (cap_at f placement.source) → AreRegions p (with_moved placement f)
regions-with_moved p placement f r distinct empty same free = regions-moved p placement.source placement.slot placement.cap f distinct empty same r free
