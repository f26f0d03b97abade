-- A derived capability stands in the regions of those that it stands below.
use Rattle.std.proofs.Common.{◌≡◌, ◌≤◌, ◌+◌, ◌^◌, ℕ, Bool, true, false, not, ◌&&◌, cond, ◌==◌, nat_le, eqb, ◌⊎◌, inl, inr, refl, sym, ◌∙◌, ap, subst, arith}
use Rattle.std.specs.List.{AllByRecursion as Each, Contains, IsDistinct}
use Rattle.std.proofs.lemmas.Bool.{and_parts, and_from}
use Rattle.std.proofs.lemmas.Bool.Decides.{nat_tests}
use Rattle.cap_core.specs.declared.profile.ProfileName.{ProfileName}
use Rattle.cap_core.specs.declared.capability.Cap.{Cap}
use Rattle.cap_core.specs.declared.capability.Cap.TheVariants.{Null, Untyped, Endpoint, CNode, Tcb}
use Rattle.cap_core.specs.Objects.{is_null, is_untyped, contains, in_region, base_of, bits_of, end_of, same_object}
use Rattle.kernel_forest.specs.Forest.{Forest, none, preorder, below_those, descendants, below, after}
use Rattle.kernel_forest.specs.Entries.{Entry, entry, is_at, is_full, is_original, cap_at, slots}
use Rattle.kernel_forest.specs.Derivation.{derived, derived_entry, names_same, freed, with_free}
use Rattle.kernel_forest.proofs.Trees.Forests.{each-contained, each-from_contained}
use Rattle.kernel_forest.proofs.Trees.Built.{Absent}
use Rattle.kernel_forest.proofs.Slots.Edits.{contains-derived}
use Rattle.kernel_forest.proofs.Disjoint.Disjointness.{slot_differs}
use Rattle.kernel_forest.proofs.Disjoint.Alike.{IsAlike, alike_self, alike_named}
use Rattle.kernel_forest.proofs.Slots.Freed.{freed_entry}
use Rattle.kernel_forest.proofs.Slots.Holding.{cap-entry, none_stands}
use Rattle.kernel_abstract.specs.declared.invocation.CapPlacement.{CapPlacement}
use Rattle.kernel_abstract.specs.CNodes.{with_derived}
use Rattle.kernel_abstract.specs.Regions.{free_of, AreRegions}
use Rattle.kernel_abstract.proofs.Capabilities.Descendants.{contains-below_those, each-descendants_below, each-descendants_after, bare-below, bare-after}
use Rattle.kernel_abstract.proofs.Capabilities.RegionsKept.{region_is, region-alike, end-alike, keeps-freed, original-renamed, below-renamed, used-renamed}

same_number : (n : ℕ) → (n == n) ≡ true
same_number n = grind (arith, nat_tests)

at_most : (m n : ℕ) → nat_le m n ≡ true → m ≤ n
at_most m n h = grind (arith, nat_tests)

-- the first names some object, and so does the second
pub named_some : (a b : Cap) → names_same a b ≡ true → (is_null a ≡ false) × (is_null b ≡ false)
named_some (Untyped i bits free) (Untyped j bits' free') h = (refl, refl)
named_some (Endpoint i badge rights) (Endpoint j badge' rights') h = (refl, refl)
named_some (CNode i radix guard) (CNode j radix' guard') h = (refl, refl)
named_some (Tcb i) (Tcb j) h = (refl, refl)
named_some a b h = absurd (let n : false ≡ true = h in cc)

pub region-self : (p : ProfileName) (a : Cap) → is_null a ≡ false → in_region p a a ≡ true
region-self p Null h = absurd (let n : true ≡ false = h in cc)
region-self p (Untyped i bits free) h = and_from (nat_le i i) (nat_le (i + 2 ^ bits) (i + 2 ^ bits)) (most i) (most (i + 2 ^ bits))
  where
    most : (n : ℕ) → nat_le n n ≡ true
    most n = grind (arith, nat_tests)
region-self p (Endpoint i badge rights) h = same_number i
region-self p (CNode i radix guard) h = and_from (i == i) (radix == radix) (same_number i) (same_number radix)
region-self p (Tcb i) h = same_number i

-- what lies in an untyped region ends there
pub region-ends : (p : ProfileName) (a c : Cap) → is_untyped a ≡ true → in_region p a c ≡ true → end_of p c ≤ end_of p a
region-ends p a c t h =
    let r : cond (is_untyped a) (not (is_null c) && contains p a c) (same_object a c) ≡ true = sym (region_is p a c) ∙ h in
    let B : Bool → Type 0 = λ b. cond b (not (is_null c) && contains p a c) (same_object a c) ≡ true in
    at_most (end_of p c) (end_of p a) (and_parts (nat_le (base_of a) (base_of c)) (nat_le (end_of p c) (end_of p a)) (and_parts (not (is_null c)) (contains p a c) (subst B t r)).1).1

module _ (p : ProfileName) (source slot : ℕ) (cap : Cap) (f : Forest Entry) (r : AreRegions p f) (distinct : IsDistinct eqb (slots f)) (empty : is_full slot f ≡ false)
    (same : names_same (cap_at f source) cap ≡ true) where
  abbrev new : Entry
  new = derived_entry source slot cap f

  abbrev put : Forest Entry
  put = derived source slot cap f

  alike : IsAlike p (cap_at f source) cap
  alike = alike_named p (cap_at f source) cap same

  -- it stood below the same, or it is the new one, below the source or below what the source stands below
  abbrev IsBelow : Entry → Entry → Type 0
  IsBelow a d = Contains (descendants (is_at a.slot) f) d ⊎ ((new ≡ d) × ((a.slot ≡ source) ⊎ ((s : Entry) × Contains (descendants (is_at a.slot) f) s × (s.slot ≡ source))))

  descends : (a d : Entry) → Contains (preorder f) a → Contains (descendants (is_at a.slot) put) d → IsBelow a d
  descends a d m n =
      each-contained (IsBelow a) (descendants (is_at a.slot) put) d
      (elim (is_original source f) as (λ c. Each (IsBelow a) (preorder (below_those (is_at a.slot) (cond c (below (is_at source) new f) (after (is_at source) new f))))) [
        | true ↦ each-descendants_below (IsBelow a) (is_at source) (is_at a.slot) new f (slot_differs slot f a empty m)
            (each-from_contained (λ (b : Entry). is_at source b ≡ true → is_at a.slot b ≡ true → IsBelow a new) (preorder f) (λ b k t u. inr (refl, inl (one b.slot source a.slot t u)))) old through
        | false ↦ each-descendants_after (IsBelow a) (is_at source) (is_at a.slot) new f (slot_differs slot f a empty m) old through
      ]) n
    where
      one : (i j k : ℕ) → (i == j) ≡ true → (i == k) ≡ true → k ≡ j
      one i j k t u = grind (arith, nat_tests)

      at : (i : ℕ) → (i == source) ≡ true → i ≡ source
      at i t = grind (arith, nat_tests)

      old : Each (IsBelow a) (descendants (is_at a.slot) f)
      old = each-from_contained (IsBelow a) (descendants (is_at a.slot) f) (λ d k. inl k)

      through : Each (λ (b : Entry). is_at source b ≡ true → IsBelow a new) (descendants (is_at a.slot) f)
      through = each-from_contained (λ (b : Entry). is_at source b ≡ true → IsBelow a new) (descendants (is_at a.slot) f) (λ b k t. inr (refl, inr (b, k, at b.slot t)))

  -- below the new one there is nothing
  bare : (d : Entry) → Contains (descendants (is_at slot) put) d → ⊥
  bare d m =
      nothing (let Q : Forest Entry → Type 0 = λ g. Contains (preorder g) d in subst Q
      (elim (is_original source f) as (λ c. below_those (is_at slot) (cond c (below (is_at source) new f) (after (is_at source) new f)) ≡ none) [
        | true ↦ bare-below (is_at source) (is_at slot) new f (same_number slot) absent
        | false ↦ bare-after (is_at source) (is_at slot) new f (same_number slot) absent
      ]) m)
    where
      absent : Absent (is_at slot) (preorder f)
      absent = none_stands slot (preorder f) empty

      nothing : Contains (preorder {A = Entry} none) d → ⊥
      nothing n = omega (arith, n.1)

  held : (a : Entry) → Contains (preorder f) a → a.slot ≡ source → cap_at f source ≡ a.cap
  held a m e = ap (cap_at f) (sym e) ∙ cap-entry f a distinct m

  -- the new one lies in the regions that the source lies in
  in_same : (a s : Cap) → cap_at f source ≡ s → in_region p a s ≡ true → in_region p a cap ≡ true
  in_same a s e h =
      sym (region-alike p a a (cap_at f source) cap (alike_self p a) alike ((named_some (cap_at f source) cap same).0 ∙ sym (named_some (cap_at f source) cap same).1)) ∙ ap (in_region p a) e ∙ h

  below_old : (a d : Entry) → Contains (preorder f) a → IsBelow a d → in_region p a.cap d.cap ≡ true
  below_old a d m (inl n) = r.below a d m n
  below_old a d m (inr (e, inl at)) =
      let Q : Entry → Type 0 = λ y. in_region p a.cap y.cap ≡ true in
      let N : Cap → Type 0 = λ b. is_null b ≡ false in
      subst Q e (in_same a.cap a.cap (held a m at) (region-self p a.cap (subst N (held a m at) (named_some (cap_at f source) cap same).0)))
  below_old a d m (inr (e, inr (s, n, at))) =
      let Q : Entry → Type 0 = λ y. in_region p a.cap y.cap ≡ true in
      subst Q e (in_same a.cap s.cap (held s (contains-below_those (is_at a.slot) f s n) at) (r.below a s m n))

  pub original-derived : (u : Entry) → Contains (preorder put) u → is_untyped u.cap ≡ true → u.original ≡ true
  original-derived u m t =
      elim (contains-derived source slot cap f u m) [
        | inl n ↦ r.original u n t
        | inr e ↦ (let Q : Entry → Type 0 = λ y. is_untyped y.cap ≡ true → y.original ≡ true in subst Q e (λ k. rw k refl)) t
      ]

  pub below-derived : (a d : Entry) → Contains (preorder put) a → Contains (descendants (is_at a.slot) put) d → in_region p a.cap d.cap ≡ true
  below-derived a d m n =
      elim (contains-derived source slot cap f a m) [
        | inl k ↦ below_old a d k (descends a d k n)
        | inr e ↦ absurd (let Q : Entry → Type 0 = λ y. Contains (descendants (is_at y.slot) put) d in bare d (subst Q (sym e) n))
      ]

  used_old : (u d : Entry) → Contains (preorder f) u → is_untyped u.cap ≡ true → IsBelow u d → (u.slot ≡ source → is_untyped cap ≡ false) → (u.slot ≡ source → is_untyped u.cap ≡ is_untyped cap) → end_of p d.cap ≤ base_of u.cap + free_of u.cap
  used_old u d m t (inl n) g k = r.used u d m t n
  used_old u d m t (inr (e, inl at)) g k = absurd (let n : is_untyped cap ≡ false = g at in let s : is_untyped u.cap ≡ is_untyped cap = k at in cc)
  used_old u d m t (inr (e, inr (s, n, at))) g k =
      let Q : Entry → Type 0 = λ y. end_of p y.cap ≤ base_of u.cap + free_of u.cap in
      let E : ℕ → Type 0 = λ i. i ≤ base_of u.cap + free_of u.cap in
      let h : end_of p s.cap ≡ end_of p cap = ap (end_of p) (sym (held s (contains-below_those (is_at u.slot) f s n) at)) ∙ end-alike p (cap_at f source) cap alike in
      subst Q e (subst E h (r.used u s m t n))

  -- what is used of an untyped one was used, but of the source of a further untyped one
  pub used-derived : (u d : Entry) → Contains (preorder put) u → is_untyped u.cap ≡ true → Contains (descendants (is_at u.slot) put) d → (u.slot ≡ source → is_untyped cap ≡ false)
      → end_of p d.cap ≤ base_of u.cap + free_of u.cap
  used-derived u d m t n g =
      elim (contains-derived source slot cap f u m) [
        | inl k ↦ used_old u d k t (descends u d k n) g (λ e. ap is_untyped (sym (held u k e)) ∙ alike.untyped)
        | inr e ↦ absurd (let Q : Entry → Type 0 = λ y. Contains (descendants (is_at y.slot) put) d in bare d (subst Q (sym e) n))
      ]

  -- and all of that is used when it is handed on
  used-handed_on : is_untyped cap ≡ true → (u d : Entry) → Contains (preorder put) u → is_untyped u.cap ≡ true → Contains (descendants (is_at u.slot) put) d
      → end_of p d.cap ≤ base_of u.cap + free_of (freed_entry source (2 ^ bits_of p cap) u).cap
  used-handed_on t u d m v n =
      (elim (u.slot == source) as (λ c. (u.slot == source) ≡ c → end_of p d.cap ≤ base_of u.cap + free_of (cond c (entry u.slot (with_free (2 ^ bits_of p cap) u.cap) u.original) u).cap) [
        | true ↦ λ e.
            let F : ℕ → Type 0 = λ i. end_of p d.cap ≤ base_of u.cap + i in
            subst F (whole (at u.slot e)) (region-ends p u.cap d.cap v (below-derived u d m n))
        | false ↦ λ e. used-derived u d m v n (λ k. absurd (other u.slot e k))
      ]) refl
    where
      at : (i : ℕ) → (i == source) ≡ true → i ≡ source
      at i e = grind (arith, nat_tests)

      other : (i : ℕ) → (i == source) ≡ false → i ≡ source → ⊥
      other i e k = grind (arith, nat_tests)

      freed_free : (free : ℕ) (a : Cap) → is_untyped a ≡ true → free ≡ free_of (with_free free a)
      freed_free free (Untyped base bits former) t = refl
      freed_free free Null t = absurd (let n : false ≡ true = t in cc)
      freed_free free (Endpoint base badge rights) t = absurd (let n : false ≡ true = t in cc)
      freed_free free (CNode base radix guard) t = absurd (let n : false ≡ true = t in cc)
      freed_free free (Tcb base) t = absurd (let n : false ≡ true = t in cc)

      whole : u.slot ≡ source → 2 ^ bits_of p u.cap ≡ free_of (with_free (2 ^ bits_of p cap) u.cap)
      whole e =
          elim (contains-derived source slot cap f u m) [
            | inl k ↦ ap (λ n. 2 ^ n) (ap (bits_of p) (sym (held u k e)) ∙ alike.bits) ∙ freed_free (2 ^ bits_of p cap) u.cap v
            | inr e' ↦ absurd (let Q : Entry → Type 0 = λ y. Contains (descendants (is_at y.slot) put) d in bare d (subst Q (sym e') n))
          ]

  pub regions-derived : AreRegions p (cond (is_untyped cap) (freed source (2 ^ bits_of p cap) put) put)
  regions-derived =
      (elim (is_untyped cap) as (λ c. is_untyped cap ≡ c → AreRegions p (cond c (freed source (2 ^ bits_of p cap) put) put)) [
        | true ↦ λ t. record {
          original = original-renamed p (freed_entry source (2 ^ bits_of p cap)) put (keeps-freed p source (2 ^ bits_of p cap) put) original-derived;
          below = below-renamed p (freed_entry source (2 ^ bits_of p cap)) put (keeps-freed p source (2 ^ bits_of p cap) put) below-derived;
          used = used-renamed p (freed_entry source (2 ^ bits_of p cap)) put (keeps-freed p source (2 ^ bits_of p cap) put) (used-handed_on t);
        }
        | false ↦ λ t. record { original = original-derived; below = below-derived; used = λ u d m v n. used-derived u d m v n (λ e. t) }
      ]) refl

pub regions-with_derived : (p : ProfileName) (placement : CapPlacement) (f : Forest Entry) → AreRegions p f → IsDistinct eqb (slots f) → is_full placement.slot f ≡ false
    → names_same (cap_at f placement.source) placement.cap ≡ true → AreRegions p (with_derived p placement f)
regions-with_derived p placement f r distinct empty same = regions-derived p placement.source placement.slot placement.cap f r distinct empty same
