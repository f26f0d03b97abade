-- Under new names and with another free index, what stands below a capability stays in its region.
use Rattle.std.proofs.Common.{◌≡◌, ◌≤◌, ◌+◌, ℕ, true, false, not, ◌&&◌, cond, ◌==◌, eqb, List, [], ◌∷◌, refl, sym, ◌∙◌, ap, subst, arith}
use Rattle.std.specs.List.{AllByRecursion as Each, Contains, IsDistinct}
use Rattle.std.proofs.lemmas.Bool.Decides.{nat_tests}
use Rattle.cap_core.specs.declared.profile.ProfileName.{ProfileName}
use Rattle.cap_core.specs.declared.capability.Cap.{Cap}
use Rattle.cap_core.specs.declared.capability.Cap.TheVariants.{Null, Untyped, Endpoint, CNode, Tcb}
use Rattle.cap_core.specs.Objects.{is_null, is_untyped, same_object, contains, in_region, base_of, end_of}
use Rattle.kernel_forest.specs.Forest.{Forest, preorder, below_those, descendants, renamed}
use Rattle.kernel_forest.specs.Entries.{Entry, entry, is_at, cap_at, slots}
use Rattle.kernel_forest.specs.Derivation.{freed, with_free}
use Rattle.kernel_forest.proofs.Trees.Built.{renamed-below_those}
use Rattle.kernel_forest.proofs.Trees.Renamed.{contains-renamed, below_those-agree}
use Rattle.kernel_forest.proofs.Disjoint.Disjointness.{same_object-swap}
use Rattle.kernel_forest.proofs.Disjoint.Alike.{IsAlike, alike_self, alike_freed, contains-alike}
use Rattle.kernel_forest.proofs.Disjoint.DisjointRenamed.{KeepsSlot}
use Rattle.kernel_forest.proofs.Slots.Freed.{freed_entry, slot-freed_entry}
use Rattle.kernel_forest.proofs.Slots.Holding.{cap-entry}
use Rattle.kernel_abstract.specs.Regions.{free_of, IsUsedUp, AreRegions}
use Rattle.kernel_abstract.proofs.Capabilities.Descendants.{contains-below_those}

-- the region of an untyped one is its range, and that of another its object
pub region_is : (p : ProfileName) (a c : Cap) → in_region p a c ≡ cond (is_untyped a) (not (is_null c) && contains p a c) (same_object a c)
region_is p Null c = refl
region_is p (Untyped base bits free) c = refl
region_is p (Endpoint base badge rights) c = refl
region_is p (CNode base radix guard) c = refl
region_is p (Tcb base) c = refl

pub region-alike : (p : ProfileName) (a a' c c' : Cap) → IsAlike p a a' → IsAlike p c c' → is_null c ≡ is_null c' → in_region p a c ≡ in_region p a' c'
region-alike p a a' c c' s t n =
    let named : same_object a c ≡ same_object a' c' = s.names c ∙ same_object-swap a' c ∙ t.names a' ∙ same_object-swap c' a' in
    region_is p a c ∙ rw (s.untyped, n, contains-alike p a a' c c' s t, named) (sym (region_is p a' c'))

pub end-alike : (p : ProfileName) (a b : Cap) → IsAlike p a b → end_of p a ≡ end_of p b
end-alike p a b s = rw (s.base, s.bits) refl

-- new names that keep each object, each slot's place and what is original
pub record KeepsEntries (p : ProfileName) (w : Entry → Entry) (f : Forest Entry) : Type 0 where
  pub alike : (e : Entry) → Contains (preorder f) e → IsAlike p e.cap (w e).cap
  pub null : (e : Entry) → Contains (preorder f) e → is_null e.cap ≡ is_null (w e).cap
  pub original : (e : Entry) → (w e).original ≡ e.original
  pub slots : (u : Entry) → Contains (preorder f) u → KeepsSlot w f u

-- what stands below a slot stood below it
pub descendants-renamed : (w : Entry → Entry) (f : Forest Entry) (u d : Entry) → KeepsSlot w f u → Contains (descendants (is_at (w u).slot) (renamed w f)) d
    → (c : Entry) × Contains (descendants (is_at u.slot) f) c × (d ≡ w c)
descendants-renamed w f u d k m =
    let e : below_those (is_at (w u).slot) (renamed w f) ≡ renamed w (below_those (is_at u.slot) f) =
    renamed-below_those w (is_at (w u).slot) f ∙ ap (renamed w) (below_those-agree (is_at u.slot) (λ e. is_at (w u).slot (w e)) f k) in
    let Q : Forest Entry → Type 0 = λ g. Contains (preorder g) d in
    contains-renamed w (below_those (is_at u.slot) f) d (subst Q e m)

-- what such names keep of the regions
module _ (p : ProfileName) (w : Entry → Entry) (f : Forest Entry) (keeps : KeepsEntries p w f) where
  pub original-renamed : ((u : Entry) → Contains (preorder f) u → is_untyped u.cap ≡ true → u.original ≡ true)
      → (u : Entry) → Contains (preorder (renamed w f)) u → is_untyped u.cap ≡ true → u.original ≡ true
  original-renamed h u m t =
      let x : (a : Entry) × Contains (preorder f) a × (u ≡ w a) = contains-renamed w f u m in
      let Q : Entry → Type 0 = λ e. is_untyped e.cap ≡ true → e.original ≡ true in
      subst Q (sym x.2) (λ n. keeps.original x.0 ∙ h x.0 x.1 ((keeps.alike x.0 x.1).untyped ∙ n)) t

  pub below-renamed : ((a d : Entry) → Contains (preorder f) a → Contains (descendants (is_at a.slot) f) d → in_region p a.cap d.cap ≡ true)
      → (a d : Entry) → Contains (preorder (renamed w f)) a → Contains (descendants (is_at a.slot) (renamed w f)) d → in_region p a.cap d.cap ≡ true
  below-renamed h a d m n =
      let x : (b : Entry) × Contains (preorder f) b × (a ≡ w b) = contains-renamed w f a m in
      let Q : Entry → Type 0 = λ e. Contains (descendants (is_at e.slot) (renamed w f)) d → in_region p e.cap d.cap ≡ true in
      subst Q (sym x.2) (at x.0 x.1) n
    where
      at : (b : Entry) → Contains (preorder f) b → Contains (descendants (is_at (w b).slot) (renamed w f)) d → in_region p (w b).cap d.cap ≡ true
      at b m n =
          let y : (c : Entry) × Contains (descendants (is_at b.slot) f) c × (d ≡ w c) = descendants-renamed w f b d (keeps.slots b m) n in
          let c : Contains (preorder f) y.0 = contains-below_those (is_at b.slot) f y.0 y.1 in
          let R : Entry → Type 0 = λ e. in_region p (w b).cap e.cap ≡ true in
          subst R (sym y.2) (sym (region-alike p b.cap (w b).cap y.0.cap (w y.0).cap (keeps.alike b m) (keeps.alike y.0 c) (keeps.null y.0 c)) ∙ h b y.0 m y.1)

  -- with new free indices, where what stands below ends within them
  pub used-renamed : ((u d : Entry) → Contains (preorder f) u → is_untyped u.cap ≡ true → Contains (descendants (is_at u.slot) f) d → end_of p d.cap ≤ base_of u.cap + free_of (w u).cap)
      → IsUsedUp p (renamed w f)
  used-renamed h u d m t n =
      let x : (b : Entry) × Contains (preorder f) b × (u ≡ w b) = contains-renamed w f u m in
      let Q : Entry → Type 0 = λ e. is_untyped e.cap ≡ true → Contains (descendants (is_at e.slot) (renamed w f)) d → end_of p d.cap ≤ base_of e.cap + free_of e.cap in
      subst Q (sym x.2) (at x.0 x.1) t n
    where
      at : (b : Entry) → Contains (preorder f) b → is_untyped (w b).cap ≡ true → Contains (descendants (is_at (w b).slot) (renamed w f)) d → end_of p d.cap ≤ base_of (w b).cap + free_of (w b).cap
      at b m t n =
          let y : (c : Entry) × Contains (descendants (is_at b.slot) f) c × (d ≡ w c) = descendants-renamed w f b d (keeps.slots b m) n in
          let c : Contains (preorder f) y.0 = contains-below_those (is_at b.slot) f y.0 y.1 in
          let s : IsAlike p b.cap (w b).cap = keeps.alike b m in
          let R : Entry → Type 0 = λ e. end_of p e.cap ≤ base_of (w b).cap + free_of (w b).cap in
          let E : ℕ → Type 0 = λ i. i ≤ base_of (w b).cap + free_of (w b).cap in
          let B : ℕ → Type 0 = λ i. end_of p y.0.cap ≤ i + free_of (w b).cap in
          subst R (sym y.2) (subst E (end-alike p y.0.cap (w y.0).cap (keeps.alike y.0 c)) (subst B s.base (h b y.0 m (s.untyped ∙ t) y.1)))

-- another free index

pub keeps-freed : (p : ProfileName) (slot free : ℕ) (f : Forest Entry) → KeepsEntries p (freed_entry slot free) f
keeps-freed p slot free f = record { alike = λ e m. alike e; null = λ e m. null e; original = original; slots = λ u m. slots u (preorder f) }
  where
    alike : (e : Entry) → IsAlike p e.cap (freed_entry slot free e).cap
    alike e = elim (e.slot == slot) as (λ c. IsAlike p e.cap (cond c (entry e.slot (with_free free e.cap) e.original) e).cap) [ true ↦ alike_freed p free e.cap | false ↦ alike_self p e.cap ]

    null_freed : (a : Cap) → is_null a ≡ is_null (with_free free a)
    null_freed Null = refl
    null_freed (Untyped base bits former) = refl
    null_freed (Endpoint base badge rights) = refl
    null_freed (CNode base radix guard) = refl
    null_freed (Tcb base) = refl

    null : (e : Entry) → is_null e.cap ≡ is_null (freed_entry slot free e).cap
    null e = elim (e.slot == slot) as (λ c. is_null e.cap ≡ is_null (cond c (entry e.slot (with_free free e.cap) e.original) e).cap) [ true ↦ null_freed e.cap | false ↦ refl ]

    original : (e : Entry) → (freed_entry slot free e).original ≡ e.original
    original e = elim (e.slot == slot) as (λ c. (cond c (entry e.slot (with_free free e.cap) e.original) e).original ≡ e.original) [ true ↦ refl | false ↦ refl ]

    slots : (u : Entry) (l : List Entry) → Each (λ (e : Entry). is_at (freed_entry slot free u).slot (freed_entry slot free e) ≡ is_at u.slot e) l
    slots u [] = tt
    slots u (e ∷ l) = (ap (λ i. i == (freed_entry slot free u).slot) (slot-freed_entry slot free e) ∙ ap (λ j. e.slot == j) (slot-freed_entry slot free u), slots u l)

-- all below the slot ends within the new free index
pub regions-freed : (p : ProfileName) (slot free : ℕ) (f : Forest Entry) → AreRegions p f → IsDistinct eqb (slots f)
    → ((d : Entry) → Contains (descendants (is_at slot) f) d → end_of p d.cap ≤ base_of (cap_at f slot) + free) → AreRegions p (freed slot free f)
regions-freed p slot free f r distinct bound =
    record {
      original = original-renamed p (freed_entry slot free) f (keeps-freed p slot free f) r.original;
      below = below-renamed p (freed_entry slot free) f (keeps-freed p slot free f) r.below;
      used = used-renamed p (freed_entry slot free) f (keeps-freed p slot free f) used;
    }
  where
    same : (i : ℕ) → (i == slot) ≡ true → i ≡ slot
    same i t = grind (arith, nat_tests)

    freed_free : (a : Cap) → is_untyped a ≡ true → free ≡ free_of (with_free free a)
    freed_free (Untyped base bits former) t = refl
    freed_free Null t = absurd (let n : false ≡ true = t in cc)
    freed_free (Endpoint base badge rights) t = absurd (let n : false ≡ true = t in cc)
    freed_free (CNode base radix guard) t = absurd (let n : false ≡ true = t in cc)
    freed_free (Tcb base) t = absurd (let n : false ≡ true = t in cc)

    used : (u d : Entry) → Contains (preorder f) u → is_untyped u.cap ≡ true → Contains (descendants (is_at u.slot) f) d → end_of p d.cap ≤ base_of u.cap + free_of (freed_entry slot free u).cap
    used u d m t n =
        (elim (u.slot == slot) as (λ c. (u.slot == slot) ≡ c → end_of p d.cap ≤ base_of u.cap + free_of (cond c (entry u.slot (with_free free u.cap) u.original) u).cap) [
          | true ↦ λ e.
              let D : ℕ → Type 0 = λ i. Contains (descendants (is_at i) f) d in
              let held : cap_at f slot ≡ u.cap = ap (cap_at f) (sym (same u.slot e)) ∙ cap-entry f u distinct m in
              let B : Cap → Type 0 = λ a. end_of p d.cap ≤ base_of a + free in
              let F : ℕ → Type 0 = λ i. end_of p d.cap ≤ base_of u.cap + i in
              subst F (freed_free u.cap t) (subst B held (bound d (subst D (same u.slot e) n)))
          | false ↦ λ e. r.used u d m t n
        ]) refl
