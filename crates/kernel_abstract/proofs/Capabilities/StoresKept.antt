-- A derivation and a move keep what holds of the store of every kernel.
use Rattle.std.proofs.Common.{◌≡◌, ◌≢◌, ◌≤◌, ◌<◌, ◌+◌, ◌*◌, ◌^◌, ℕ, Bool, true, false, cond, not, ◌&&◌, ◌||◌, ◌==◌, eqb, List, map, All, refl, sym, ◌∙◌, ap, subst, arith}
use Rattle.std.specs.List.{AllByRecursion as Each, Contains, IsDistinct}
use Rattle.std.proofs.lemmas.List.Elements.{recursion_from_All, All-from_recursion}
use Rattle.std.proofs.lemmas.Bool.Decides.{nat_tests}
use Rattle.std.proofs.Math.Nat.{pow-le-pow_right}
use Rattle.cap_core.specs.declared.limits.TheConstants.{MAX_MEMORY_BITS}
use Rattle.cap_core.specs.declared.profile.ProfileName.{ProfileName}
use Rattle.cap_core.specs.declared.profile.ProfileName.TheVariants.{Wide, Narrow}
use Rattle.cap_core.specs.declared.capability.Cap.{Cap}
use Rattle.cap_core.specs.declared.capability.Cap.TheVariants.{Null, Untyped, Endpoint, CNode, Tcb}
use Rattle.cap_core.specs.Numbers.{slot_size, word_bits}
use Rattle.cap_core.specs.Objects.{is_null, is_untyped, bits_of, contains, in_region, same_object, IsLawful}
use Rattle.kernel_forest.specs.Forest.{Forest, preorder, descendants}
use Rattle.kernel_forest.specs.Entries.{Entry, is_at, is_full, is_original, cap_at, slots}
use Rattle.kernel_forest.specs.Derivation.{derived, freed, moved, with_free}
use Rattle.kernel_forest.specs.Disjoint.{IsDisjoint}
use Rattle.kernel_forest.proofs.Trees.Forests.{each-from_contained, each-contained}
use Rattle.kernel_forest.proofs.Slots.Edits.{each-derived, entry_at, cap-derived_other}
use Rattle.kernel_forest.proofs.Disjoint.Disjointness.{are_same}
use Rattle.kernel_forest.proofs.Slots.Distinct.{distinct-derived}
use Rattle.kernel_forest.proofs.Disjoint.Alike.{IsAlike, alike_named}
use Rattle.kernel_forest.proofs.Disjoint.DisjointDerived.{disjoint-derived_named}
use Rattle.kernel_forest.proofs.Disjoint.DisjointRenamed.{disjoint-freed, disjoint-moved}
use Rattle.kernel_forest.proofs.Slots.FirstChildren.{childless-bare}
use Rattle.kernel_forest.proofs.Slots.Freed.{each-freed, distinct-freed}
use Rattle.kernel_forest.proofs.Slots.Moved.{each-moved, distinct-moved}
use Rattle.kernel_forest.proofs.Trees.Renamed.{each-map, each-map_old}
use Rattle.kernel_forest.proofs.Slots.Holding.{cap-entry, original_in-one}
use Rattle.kernel_abstract.specs.declared.invocation.CapPlacement.{CapPlacement}
use Rattle.kernel_abstract.specs.Private.Stores.{IsKernelStore}
use Rattle.kernel_abstract.specs.Memory.{IsSlotAddress}
use Rattle.kernel_abstract.specs.Private.Invocations.{IsPlacement, IsDerivation, IsMove}
use Rattle.kernel_abstract.specs.CNodes.{with_derived, with_moved}
use Rattle.kernel_abstract.proofs.Capabilities.RegionsKept.{region_is}
use Rattle.kernel_abstract.proofs.Capabilities.RegionsDerived.{regions-with_derived}
use Rattle.kernel_abstract.proofs.Capabilities.RegionsMoved.{regions-with_moved}

-- between the entries and their slots or capabilities
each_of : {X : Type 0} (P : X → Type 0) (g : Entry → X) (l : List Entry) → All P (map g l) → Each (λ e. P (g e)) l
each_of P g l h = each-map_old P g l (recursion_from_All P (map g l) h)

all_of : {X : Type 0} (P : X → Type 0) (g : Entry → X) (l : List Entry) → Each (λ e. P (g e)) l → All P (map g l)
all_of P g l h = All-from_recursion P (map g l) (each-map P g l h)

-- a slot of the memory ends within the words
pub slot_ends : (p : ProfileName) (memory slot : ℕ) → memory ≤ MAX_MEMORY_BITS → IsSlotAddress p memory slot → slot + 1 * slot_size p ≤ 2 ^ word_bits p
slot_ends p memory slot most h =
    let grows : 2 ^ memory ≤ 2 ^ MAX_MEMORY_BITS = pow-le-pow_right {n = 2} (omega arith) {i = memory} {j = MAX_MEMORY_BITS} most in
    let within : slot < 2 ^ memory = h.within in
    within_words p (omega arith)
  where
    within_words : (q : ProfileName) → slot < 2 ^ MAX_MEMORY_BITS → slot + 1 * slot_size q ≤ 2 ^ word_bits q
    within_words Wide h = omega arith
    within_words Narrow h = omega arith

-- with a free index within its region an untyped capability is lawful
pub lawful-freed : (p : ProfileName) (memory n : ℕ) (a : Cap) → n ≡ bits_of p a → IsLawful p memory a → IsLawful p memory (with_free (2 ^ n) a)
lawful-freed p memory n Null e h = h
lawful-freed p memory n (Untyped base bits free) e h =
    record {
      full = refl;
      placed = record { aligned = h.placed.aligned; within = h.placed.within; addressed = h.placed.addressed };
      holds = record { least = h.holds.least; most = h.holds.most; free_within = let f : 2 ^ n ≡ 2 ^ bits = ap (λ i. 2 ^ i) e in omega arith };
    }
lawful-freed p memory n (Endpoint base badge rights) e h = h
lawful-freed p memory n (CNode base radix guard) e h = h
lawful-freed p memory n (Tcb base) e h = h

module _ (p : ProfileName) (memory : ℕ) (f : Forest Entry) (store : IsKernelStore p memory f) (placement : CapPlacement) where
  module _ (ends : IsPlacement p f placement) where
    alike : IsAlike p (cap_at f placement.source) placement.cap
    alike = alike_named p (cap_at f placement.source) placement.cap ends.same

    pub source_placed : IsSlotAddress p memory placement.source
    source_placed =
        let s : (e : Entry) × Contains (preorder f) e × (e.slot ≡ placement.source) × (e.cap ≡ cap_at f placement.source) = entry_at placement.source f ends.full in
        subst (IsSlotAddress p memory) s.2
        (each-contained (λ (e : Entry). IsSlotAddress p memory e.slot) (preorder f) s.0 (each_of (IsSlotAddress p memory) (λ (e : Entry). e.slot) (preorder f) store.slots_placed) s.1)

    pub slot_placed : IsSlotAddress p memory placement.slot
    slot_placed = ends.placed memory store.lawful

    pub cap_lawful : IsLawful p memory placement.cap
    cap_lawful = ends.lawful memory store.lawful

    pub source_lawful : IsLawful p memory (cap_at f placement.source)
    source_lawful =
        let s : (e : Entry) × Contains (preorder f) e × (e.slot ≡ placement.source) × (e.cap ≡ cap_at f placement.source) = entry_at placement.source f ends.full in
        subst (IsLawful p memory) s.3
        (each-contained (λ (e : Entry). IsLawful p memory e.cap) (preorder f) s.0 (each_of (IsLawful p memory) (λ (e : Entry). e.cap) (preorder f) store.lawful) s.1)

    pub slots_differ : placement.source ≢ placement.slot
    slots_differ e = let none : is_full placement.slot f ≡ false = ends.empty in
        let some : is_full placement.slot f ≡ true = (let Q : ℕ → Type 0 = λ n. is_full n f ≡ true in subst Q e ends.full) in cc

  module _ (invocation : IsDerivation p f placement) where
    abbrev put : Forest Entry
    put = derived placement.source placement.slot placement.cap f

    held : (e : Entry) → Contains (preorder f) e → e.slot ≡ placement.source → cap_at f placement.source ≡ e.cap
    held e m s = ap (cap_at f) (sym s) ∙ cap-entry f e store.slots_distinct m

    original : is_untyped placement.cap ≡ true → is_original placement.source f ≡ true
    original t =
        original_in-one placement.source true (preorder f) invocation.ends.full
        (each-from_contained (λ (e : Entry). (e.slot == placement.source) ≡ true → e.original ≡ true) (preorder f)
        (λ e m s. store.regions.original e m (ap is_untyped (sym (held e m (at e.slot s))) ∙ (alike invocation.ends).untyped ∙ t)))
      where
        at : (i : ℕ) → (i == placement.source) ≡ true → i ≡ placement.source
        at i s = grind (arith, nat_tests)

    -- below a source that is no untyped one stand capabilities of its object, and below one that is handed on none
    bare : (u : Entry) → Contains (descendants (is_at placement.source) f) u → (is_untyped placement.cap || is_untyped u.cap) ≡ false
    bare u m =
        (elim (is_untyped placement.cap) as (λ c. is_untyped placement.cap ≡ c → (c || is_untyped u.cap) ≡ false) [
          | true ↦ λ t. absurd (childless-bare placement.source f (invocation.childless t) u m)
          | false ↦ λ t.
              let s : (e : Entry) × Contains (preorder f) e × (e.slot ≡ placement.source) × (e.cap ≡ cap_at f placement.source) = entry_at placement.source f invocation.ends.full in
              let D : ℕ → Type 0 = λ i. Contains (descendants (is_at i) f) u in
              let r : in_region p s.0.cap u.cap ≡ true = store.regions.below s.0 u s.1 (subst D (sym s.2) m) in
              let B : Bool → Type 0 = λ b. cond b (not (is_null u.cap) && contains p s.0.cap u.cap) (same_object s.0.cap u.cap) ≡ true in
              let typed : is_untyped s.0.cap ≡ false = ap is_untyped s.3 ∙ (alike invocation.ends).untyped ∙ t in
              (are_same p s.0.cap u.cap (subst B typed (sym (region_is p s.0.cap u.cap) ∙ r))).second
        ]) refl

    pub put_disjoint : IsDisjoint p (derived placement.source placement.slot placement.cap f)
    put_disjoint = disjoint-derived_named p placement.source placement.slot placement.cap f store.disjoint store.slots_distinct invocation.ends.full invocation.ends.empty invocation.ends.same original bare

    pub source_held : cap_at (derived placement.source placement.slot placement.cap f) placement.source ≡ cap_at f placement.source
    source_held = cap-derived_other placement.source placement.source placement.slot placement.cap f (slots_differ invocation.ends)

    put_placed : Each (λ (e : Entry). IsSlotAddress p memory e.slot) (preorder put)
    put_placed = each-derived (λ (e : Entry). IsSlotAddress p memory e.slot) placement.source placement.slot placement.cap f (each_of (IsSlotAddress p memory) (λ (e : Entry). e.slot) (preorder f) store.slots_placed) (slot_placed invocation.ends)

    put_lawful : Each (λ (e : Entry). IsLawful p memory e.cap) (preorder put)
    put_lawful = each-derived (λ (e : Entry). IsLawful p memory e.cap) placement.source placement.slot placement.cap f (each_of (IsLawful p memory) (λ (e : Entry). e.cap) (preorder f) store.lawful) (cap_lawful invocation.ends)

    put_distinct : IsDistinct eqb (slots put)
    put_distinct = distinct-derived placement.source placement.slot placement.cap f store.slots_distinct invocation.ends.full invocation.ends.empty

    size_is : (e : Entry) → Contains (preorder put) e → e.slot ≡ placement.source → bits_of p placement.cap ≡ bits_of p e.cap
    size_is e m s = sym (alike invocation.ends).bits ∙ ap (bits_of p) (sym source_held ∙ ap (cap_at put) (sym s) ∙ cap-entry put e put_distinct m)

    abbrev size : ℕ
    size = 2 ^ bits_of p placement.cap

    pub store-derived : IsKernelStore p memory (with_derived p placement f)
    store-derived =
        record {
          memory_most = store.memory_most;
          slots_distinct = elim (is_untyped placement.cap) as (λ c. IsDistinct eqb (slots (cond c (freed placement.source size put) put))) [
            | true ↦ distinct-freed placement.source size put put_distinct
            | false ↦ put_distinct
          ];
          slots_placed = all_of (IsSlotAddress p memory) (λ (e : Entry). e.slot) (preorder (with_derived p placement f))
              (elim (is_untyped placement.cap) as (λ c. Each (λ (e : Entry). IsSlotAddress p memory e.slot) (preorder (cond c (freed placement.source size put) put))) [
                | true ↦ each-freed (λ (e : Entry). IsSlotAddress p memory e.slot) placement.source size put put_placed (λ e m s. source_placed invocation.ends)
                | false ↦ put_placed
              ]);
          lawful = all_of (IsLawful p memory) (λ (e : Entry). e.cap) (preorder (with_derived p placement f))
              (elim (is_untyped placement.cap) as (λ c. Each (λ (e : Entry). IsLawful p memory e.cap) (preorder (cond c (freed placement.source size put) put))) [
                | true ↦ each-freed (λ (e : Entry). IsLawful p memory e.cap) placement.source size put put_lawful
                    (λ e m s. lawful-freed p memory (bits_of p placement.cap) e.cap (size_is e m s) (each-contained (λ (e : Entry). IsLawful p memory e.cap) (preorder put) e put_lawful m))
                | false ↦ put_lawful
              ]);
          disjoint = elim (is_untyped placement.cap) as (λ c. IsDisjoint p (cond c (freed placement.source size put) put)) [
            | true ↦ disjoint-freed p placement.source size put put_disjoint
            | false ↦ put_disjoint
          ];
          regions = regions-with_derived p placement f store.regions store.slots_distinct invocation.ends.empty invocation.ends.same;
        }

  module _ (invocation : IsMove p f placement) where
    pub moved_disjoint : IsDisjoint p (moved placement.source placement.slot placement.cap f)
    moved_disjoint = disjoint-moved p placement.source placement.slot placement.cap f store.disjoint store.slots_distinct invocation.ends.empty invocation.ends.same

    pub store-moved : IsKernelStore p memory (with_moved placement f)
    store-moved =
        record {
          memory_most = store.memory_most;
          slots_distinct = distinct-moved placement.source placement.slot placement.cap f store.slots_distinct invocation.ends.empty;
          slots_placed = all_of (IsSlotAddress p memory) (λ (e : Entry). e.slot) (preorder (with_moved placement f))
              (each-moved (λ (e : Entry). IsSlotAddress p memory e.slot) placement.source placement.slot placement.cap f
              (each_of (IsSlotAddress p memory) (λ (e : Entry). e.slot) (preorder f) store.slots_placed) (λ original. slot_placed invocation.ends));
          lawful = all_of (IsLawful p memory) (λ (e : Entry). e.cap) (preorder (with_moved placement f))
              (each-moved (λ (e : Entry). IsLawful p memory e.cap) placement.source placement.slot placement.cap f
              (each_of (IsLawful p memory) (λ (e : Entry). e.cap) (preorder f) store.lawful) (λ original. cap_lawful invocation.ends));
          disjoint = moved_disjoint;
          regions = regions-with_moved p placement f store.regions store.slots_distinct invocation.ends.empty invocation.ends.same invocation.free;
        }
