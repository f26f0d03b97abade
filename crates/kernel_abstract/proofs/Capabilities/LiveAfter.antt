-- A derived capability and a moved one name no other object than before: the same objects are live.
use Rattle.std.proofs.Common.{◌≡◌, ℕ, Bool, true, false, cond, ◌==◌, ◌||◌, ◌^◌, eqb, List, [], ◌∷◌, map, Option, None, Some, refl, sym, ◌∙◌, ap, arith}
use Rattle.std.specs.List.{list_any, filter_map, cons_option, Contains, AllByRecursion as Each, IsDistinct}
use Rattle.std.proofs.lemmas.Bool.Decides.{nat_tests}
use Rattle.std.proofs.lemmas.Bool.{eqb-true}
use Rattle.cap_core.specs.declared.profile.ProfileName.{ProfileName}
use Rattle.cap_core.specs.declared.capability.Cap.{Cap}
use Rattle.cap_core.specs.declared.capability.Cap.TheVariants.{Null, Untyped, Endpoint, CNode, Tcb}
use Rattle.cap_core.specs.Objects.{is_untyped, bits_of}
use Rattle.kernel_forest.specs.Forest.{Forest, preorder}
use Rattle.kernel_forest.specs.Entries.{Entry, entry, is_full, cap_at, caps, slots}
use Rattle.kernel_forest.specs.Derivation.{names_same, with_free, derived, freed}
use Rattle.kernel_forest.proofs.Trees.Forests.{each-contains}
use Rattle.kernel_forest.proofs.Slots.Edits.{any-derived, entry_at}
use Rattle.kernel_forest.proofs.Slots.Freed.{any-freed}
use Rattle.kernel_forest.proofs.Slots.Moved.{moved_entry, preorder-moved}
use Rattle.kernel_forest.proofs.Slots.Holding.{cap-entry}
use Rattle.kernel_forest.proofs.Disjoint.DisjointDerived.{any_contained}
use Rattle.kernel_abstract.specs.declared.invocation.CapPlacement.{CapPlacement}
use Rattle.kernel_abstract.specs.Shown.{tcb_base, endpoint_base}
use Rattle.kernel_abstract.specs.CNodes.{with_derived, with_moved}

-- the address of the object of one kind: it is the same of two capabilities of one object, and the free index is no part of it
pub record IsBase (base_of : Cap → Option ℕ) : Type 0 where
  pub same : (a b : Cap) → names_same a b ≡ true → base_of a ≡ base_of b
  pub freed : (free : ℕ) (a : Cap) → base_of (with_free free a) ≡ base_of a

pub tcb_is_base : IsBase tcb_base
tcb_is_base = record { same = same; freed = unfreed }
  where
    same : (a b : Cap) → names_same a b ≡ true → tcb_base a ≡ tcb_base b
    same (Tcb i) (Tcb j) h = ap Some (eqb-true i j h)
    same (Untyped i bits free) (Untyped j bits' free') h = refl
    same (Endpoint i badge rights) (Endpoint j badge' rights') h = refl
    same (CNode i radix guard) (CNode j radix' guard') h = refl
    same a b h = absurd (let n : false ≡ true = h in cc)

    unfreed : (free : ℕ) (a : Cap) → tcb_base (with_free free a) ≡ tcb_base a
    unfreed free Null = refl
    unfreed free (Untyped base bits former) = refl
    unfreed free (Endpoint base badge rights) = refl
    unfreed free (CNode base radix guard) = refl
    unfreed free (Tcb base) = refl

pub endpoint_is_base : IsBase endpoint_base
endpoint_is_base = record { same = same; freed = unfreed }
  where
    same : (a b : Cap) → names_same a b ≡ true → endpoint_base a ≡ endpoint_base b
    same (Endpoint i badge rights) (Endpoint j badge' rights') h = ap Some (eqb-true i j h)
    same (Untyped i bits free) (Untyped j bits' free') h = refl
    same (CNode i radix guard) (CNode j radix' guard') h = refl
    same (Tcb i) (Tcb j) h = refl
    same a b h = absurd (let n : false ≡ true = h in cc)

    unfreed : (free : ℕ) (a : Cap) → endpoint_base (with_free free a) ≡ endpoint_base a
    unfreed free Null = refl
    unfreed free (Untyped base bits former) = refl
    unfreed free (Endpoint base badge rights) = refl
    unfreed free (CNode base radix guard) = refl
    unfreed free (Tcb base) = refl

module _ (base_of : Cap → Option ℕ) (is : IsBase base_of) where
  -- the capability names the object at that address
  abbrev names : ℕ → Option ℕ → Bool
  names e None = false
  names e (Some n) = e == n

  pub any_named : (e : ℕ) (l : List Entry) → list_any (λ k. e == k) (filter_map base_of (map (λ (x : Entry). x.cap) l)) ≡ list_any (λ (x : Entry). names e (base_of x.cap)) l
  any_named e [] = refl
  any_named e (x ∷ l) = step (base_of x.cap) ∙ ap (λ b. names e (base_of x.cap) || b) (any_named e l)
    where
      step : (o : Option ℕ) → list_any (λ k. e == k) (cons_option o (filter_map base_of (map (λ (x : Entry). x.cap) l))) ≡ (names e o || list_any (λ k. e == k) (filter_map base_of (map (λ (x : Entry). x.cap) l)))
      step None = refl
      step (Some n) = refl

  absorbed : (b c : Bool) → (c ≡ true → b ≡ true) → (b || c) ≡ b
  absorbed true c h = refl
  absorbed false true h = sym (h refl)
  absorbed false false h = refl

  put_named : (e : ℕ) (source slot : ℕ) (cap : Cap) (f : Forest Entry) → is_full source f ≡ true → names_same (cap_at f source) cap ≡ true
      → list_any (λ (x : Entry). names e (base_of x.cap)) (preorder (derived source slot cap f)) ≡ list_any (λ (x : Entry). names e (base_of x.cap)) (preorder f)
  put_named e source slot cap f full same =
      any-derived (λ (x : Entry). names e (base_of x.cap)) source slot cap f full
      ∙ absorbed (list_any (λ (x : Entry). names e (base_of x.cap)) (preorder f)) (names e (base_of cap))
      (λ t. let s : (s : Entry) × Contains (preorder f) s × (s.slot ≡ source) × (s.cap ≡ cap_at f source) = entry_at source f full in
      any_contained (λ (x : Entry). names e (base_of x.cap)) (preorder f) s.0 s.1
      (ap (λ a. names e (base_of a)) s.3 ∙ ap (names e) (is.same (cap_at f source) cap same) ∙ t))

  freed_named : (e : ℕ) (slot free : ℕ) (f : Forest Entry)
      → list_any (λ (x : Entry). names e (base_of x.cap)) (preorder (freed slot free f)) ≡ list_any (λ (x : Entry). names e (base_of x.cap)) (preorder f)
  freed_named e slot free f = any-freed (λ (x : Entry). names e (base_of x.cap)) slot free f (λ x. ap (names e) (is.freed free x.cap))

  -- another free index
  pub live-freed : (e slot free : ℕ) (f : Forest Entry)
      → list_any (λ k. e == k) (filter_map base_of (caps (freed slot free f))) ≡ list_any (λ k. e == k) (filter_map base_of (caps f))
  live-freed e slot free f = any_named e (preorder (freed slot free f)) ∙ freed_named e slot free f ∙ sym (any_named e (preorder f))

  pub live-derived : (p : ProfileName) (placement : CapPlacement) (f : Forest Entry) → is_full placement.source f ≡ true → names_same (cap_at f placement.source) placement.cap ≡ true
      → (e : ℕ) → list_any (λ k. e == k) (filter_map base_of (caps (with_derived p placement f))) ≡ list_any (λ k. e == k) (filter_map base_of (caps f))
  live-derived p placement f full same e =
      any_named e (preorder (with_derived p placement f))
      ∙ either (is_untyped placement.cap) (put_named e placement.source placement.slot placement.cap f full same)
      ∙ sym (any_named e (preorder f))
    where
      put : Forest Entry
      put = derived placement.source placement.slot placement.cap f

      either : (b : Bool) → list_any (λ (x : Entry). names e (base_of x.cap)) (preorder put) ≡ list_any (λ (x : Entry). names e (base_of x.cap)) (preorder f)
          → list_any (λ (x : Entry). names e (base_of x.cap)) (preorder (cond b (freed placement.source (2 ^ bits_of p placement.cap) put) put)) ≡ list_any (λ (x : Entry). names e (base_of x.cap)) (preorder f)
      either true h = freed_named e placement.source (2 ^ bits_of p placement.cap) put ∙ h
      either false h = h

  pub live-moved : (placement : CapPlacement) (f : Forest Entry) → IsDistinct eqb (slots f) → names_same (cap_at f placement.source) placement.cap ≡ true
      → (e : ℕ) → list_any (λ k. e == k) (filter_map base_of (caps (with_moved placement f))) ≡ list_any (λ k. e == k) (filter_map base_of (caps f))
  live-moved placement f distinct same e =
      any_named e (preorder (with_moved placement f))
      ∙ ap (list_any (λ (x : Entry). names e (base_of x.cap))) (preorder-moved placement.source placement.slot placement.cap f)
      ∙ go (preorder f) (each-contains (preorder f))
      ∙ sym (any_named e (preorder f))
    where
      at : (i : ℕ) → (i == placement.source) ≡ true → i ≡ placement.source
      at i t = grind (arith, nat_tests)

      one : (x : Entry) → Contains (preorder f) x → names e (base_of (moved_entry placement.source placement.slot placement.cap x).cap) ≡ names e (base_of x.cap)
      one x m =
          (elim (x.slot == placement.source) as (λ c. (x.slot == placement.source) ≡ c → names e (base_of (cond c (entry placement.slot placement.cap x.original) x).cap) ≡ names e (base_of x.cap)) [
            | true ↦ λ t. ap (names e) (sym (is.same (cap_at f placement.source) placement.cap same) ∙ ap base_of (ap (cap_at f) (sym (at x.slot t)) ∙ cap-entry f x distinct m))
            | false ↦ λ t. refl
          ]) refl

      go : (l : List Entry) → Each (Contains (preorder f)) l
          → list_any (λ (x : Entry). names e (base_of x.cap)) (map (moved_entry placement.source placement.slot placement.cap) l) ≡ list_any (λ (x : Entry). names e (base_of x.cap)) l
      go [] h = refl
      go (x ∷ l) h =
          ap (λ b. b || list_any (λ (x : Entry). names e (base_of x.cap)) (map (moved_entry placement.source placement.slot placement.cap) l)) (one x h.0)
          ∙ ap (λ b. names e (base_of x.cap) || b) (go l h.1)
