-- The objects of a retype whose checks passed can be made, and what holds after.
use Rattle.std.proofs.Common.{◌≡◌, ℕ, zero, suc, ◌+◌, ◌%◌, ◌^◌, ◌≤◌, ◌<◌, Bool, true, false, ◌&&◌, ◌==◌, eqb, nat_le, [], map, Some, None, is_some, All, refl, sym, ◌∙◌, ap, subst, arith}
use Rattle.std.specs.List.{AllByRecursion as Each, Contains, IsDistinct, range_with_len}
use Rattle.std.proofs.lemmas.Bool.Decides.{nat_tests}
use Rattle.std.proofs.lemmas.List.Elements.{recursion_from_All, All-from_recursion}
use Rattle.cap_core.specs.declared.profile.ProfileName.{ProfileName}
use Rattle.cap_core.specs.declared.profile.ProfileName.TheVariants.{Wide, Narrow}
use Rattle.cap_core.specs.declared.capability.Kind.{Kind}
use Rattle.cap_core.specs.declared.capability.Kind.TheVariants as Kinds
use Rattle.cap_core.specs.declared.capability.Cap.{Cap}
use Rattle.cap_core.specs.declared.capability.Cap.TheVariants.{Null, Untyped, Endpoint, CNode, Tcb}
use Rattle.cap_core.specs.Kinds.{new_cap, size_of}
use Rattle.cap_core.specs.Objects.{is_null, is_untyped, base_of, bits_of, end_of, contains, IsLawful}
use Rattle.mem_core.specs.declared.objects.Placed.{Placed}
use Rattle.mem_core.specs.Plans.{start_of, object_at, LieInRegion, LieInUntyped}
use Rattle.kernel_forest.specs.Forest.{Forest, preorder, descendants}
use Rattle.kernel_forest.specs.Entries.{Entry, is_at, cap_at, caps, slots, first_child}
use Rattle.kernel_forest.specs.Derivation.{freed, with_free}
use Rattle.kernel_forest.specs.Disjoint.{IsDisjoint}
use Rattle.kernel_forest.proofs.Trees.Forests.{each-contained}
use Rattle.kernel_forest.proofs.Trees.Renamed.{each-map, each-map_old}
use Rattle.kernel_forest.proofs.Slots.Edits.{entry_at}
use Rattle.kernel_forest.proofs.Slots.Holding.{cap-entry}
use Rattle.kernel_forest.proofs.Slots.FirstChildren.{childless-bare}
use Rattle.kernel_forest.proofs.Disjoint.Alike.{IsAlike, alike_freed, contains-alike_first}
use Rattle.kernel_forest.proofs.Disjoint.DisjointRenamed.{disjoint-freed}
use Rattle.kernel_forest.proofs.Slots.Freed.{freed_entry, slot-freed_entry, full-freed, cap-freed_here, distinct-freed, each-freed}
use Rattle.cspace_core.specs.Resolution.{slot_of}
use Rattle.kernel_abstract.specs.declared.invocation.NewObjects.{NewObjects}
use Rattle.kernel_abstract.specs.Regions.{free_of, AreRegions}
use Rattle.kernel_abstract.specs.Memory.{IsSlotAddress}
use Rattle.kernel_abstract.specs.Shown.{has_child}
use Rattle.kernel_abstract.specs.Retyping.{new_caps, with_objects}
use Rattle.kernel_abstract.specs.Private.Invocations.{IsRetype}
use Rattle.kernel_abstract.proofs.Capabilities.Descendants.{contains-below_those}
use Rattle.kernel_abstract.proofs.Capabilities.RegionsKept.{end-alike, keeps-freed, descendants-renamed, regions-freed}
use Rattle.kernel_abstract.proofs.Retype.LiveRetyped.{untyped_full}
use Rattle.kernel_abstract.proofs.Retype.PutInOrder.{IsNew, AreInOrder, CanMake, all_new, each-with_new}

-- lists

pub each-range : {X : Type 0} (P : X → Type 0) (g : ℕ → X) (i n : ℕ) → ((k : ℕ) → i ≤ k → k < i + n → P (g k)) → Each P (map g (range_with_len i n))
each-range P g i zero h = tt
each-range P g i (suc n) h = (h i (omega arith) (omega arith), each-range P g (i + 1) n (λ k low high. h k (omega arith) (omega arith)))

order-range : (p : ProfileName) (g : ℕ → ℕ × Cap) (i n : ℕ) → ((j k : ℕ) → i ≤ j → j < k → k < i + n → (end_of p (g j).1 ≤ base_of (g k).1) × (((g j).0 == (g k).0) ≡ false)) → AreInOrder p (map g (range_with_len i n))
order-range p g i zero h = tt
order-range p g i (suc n) h = (
  each-range (λ (next : ℕ × Cap). (end_of p (g i).1 ≤ base_of next.1) × (((g i).0 == next.0) ≡ false)) g (i + 1) n (λ k low high. h i k (omega arith) (omega arith) (omega arith)),
  order-range p g (i + 1) n (λ j k low less high. h j k (omega arith) less (omega arith)),
)

pub each_cap : (P : Cap → Type 0) (f : Forest Entry) → All P (caps f) → Each (λ (e : Entry). P e.cap) (preorder f)
each_cap P f h = each-map_old P (λ (e : Entry). e.cap) (preorder f) (recursion_from_All P (caps f) h)

pub all_caps : (P : Cap → Type 0) (f : Forest Entry) → Each (λ (e : Entry). P e.cap) (preorder f) → All P (caps f)
all_caps P f h = All-from_recursion P (caps f) (each-map P (λ (e : Entry). e.cap) (preorder f) h)

pub each_slot : (P : ℕ → Type 0) (f : Forest Entry) → All P (slots f) → Each (λ (e : Entry). P e.slot) (preorder f)
each_slot P f h = each-map_old P (λ (e : Entry). e.slot) (preorder f) (recursion_from_All P (slots f) h)

pub all_slots : (P : ℕ → Type 0) (f : Forest Entry) → Each (λ (e : Entry). P e.slot) (preorder f) → All P (slots f)
all_slots P f h = All-from_recursion P (slots f) (each-map P (λ (e : Entry). e.slot) (preorder f) h)

-- the capability of a new object

pub new_base : (kind : Kind) (base size_bits : ℕ) → base_of (new_cap kind base size_bits) ≡ base
new_base Kinds.Untyped base size_bits = refl
new_base Kinds.Tcb base size_bits = refl
new_base Kinds.Endpoint base size_bits = refl
new_base Kinds.CNode base size_bits = refl

new_bits : (p : ProfileName) (kind : Kind) (base size_bits : ℕ) → bits_of p (new_cap kind base size_bits) ≡ size_of p kind size_bits
new_bits p Kinds.Untyped base size_bits = refl
new_bits p Kinds.Tcb base size_bits = refl
new_bits p Kinds.Endpoint base size_bits = refl
new_bits p Kinds.CNode base size_bits = refl

new_some : (kind : Kind) (base size_bits : ℕ) → is_null (new_cap kind base size_bits) ≡ false
new_some Kinds.Untyped base size_bits = refl
new_some Kinds.Tcb base size_bits = refl
new_some Kinds.Endpoint base size_bits = refl
new_some Kinds.CNode base size_bits = refl

-- an untyped capability with another free index

free_set : (free : ℕ) (cap : Cap) → is_untyped cap ≡ true → free_of (with_free free cap) ≡ free
free_set free (Untyped base bits former) h = refl
free_set free Null h = absurd (let n : false ≡ true = h in cc)
free_set free (Endpoint base badge rights) h = absurd (let n : false ≡ true = h in cc)
free_set free (CNode base radix guard) h = absurd (let n : false ≡ true = h in cc)
free_set free (Tcb base) h = absurd (let n : false ≡ true = h in cc)

pub lawful_free : (p : ProfileName) (memory free : ℕ) (cap : Cap) → free ≤ 2 ^ bits_of p cap → IsLawful p memory cap → IsLawful p memory (with_free free cap)
lawful_free p memory free (Untyped base bits former) h l =
    record { full = l.full; placed = record { aligned = l.placed.aligned; within = l.placed.within; addressed = l.placed.addressed }; holds = record { least = l.holds.least; most = l.holds.most; free_within = h } }
lawful_free p memory free Null h l = l
lawful_free p memory free (Endpoint base badge rights) h l = l
lawful_free p memory free (CNode base radix guard) h l = l
lawful_free p memory free (Tcb base) h l = l

lie_in : (p : ProfileName) (cap : Cap) (has_children : Bool) (b count : ℕ) (placed : Placed) → LieInUntyped cap has_children b count placed
    → LieInRegion (base_of cap) (bits_of p cap) (start_of has_children (free_of cap)) b count placed
lie_in p (Untyped base bits free) has_children b count placed h = h
lie_in p Null has_children b count placed h = absurd h
lie_in p (Endpoint base badge rights) has_children b count placed h = absurd h
lie_in p (CNode base radix guard) has_children b count placed h = absurd h
lie_in p (Tcb base) has_children b count placed h = absurd h

slots_differ : (p : ProfileName) (first i j : ℕ) → i < j → (slot_of p first i == slot_of p first j) ≡ false
slots_differ Wide first i j h = grind (arith, nat_tests)
slots_differ Narrow first i j h = grind (arith, nat_tests)

contains_from : (i j m n : ℕ) → i ≤ j → m ≤ n → (nat_le i j && nat_le m n) ≡ true
contains_from i j m n h k = grind (arith, nat_tests)

module _ (p : ProfileName) (f : Forest Entry) (new : NewObjects) (is : IsRetype p f new) where
  pub lies : LieInRegion (base_of (cap_at f new.untyped)) (bits_of p (cap_at f new.untyped)) (start_of (has_child new.untyped f) (free_of (cap_at f new.untyped))) new.shape.bits new.count new.placed
  lies = lie_in p (cap_at f new.untyped) (has_child new.untyped f) new.shape.bits new.count new.placed is.placed

  pub new_end : (i : ℕ) → end_of p (new_cap new.shape.kind (object_at new.placed i) new.shape.size_bits) ≡ object_at new.placed i + 2 ^ new.shape.bits
  new_end i =
      ap (λ b. b + 2 ^ bits_of p (new_cap new.shape.kind (object_at new.placed i) new.shape.size_bits)) (new_base new.shape.kind (object_at new.placed i) new.shape.size_bits)
      ∙ ap (λ n. object_at new.placed i + 2 ^ n) (new_bits p new.shape.kind (object_at new.placed i) new.shape.size_bits ∙ sym is.shape.bits)

  -- what stood below the untyped ends in front of the new objects
  ends_before : AreRegions p f → (d : Entry) → Contains (descendants (is_at new.untyped) f) d → end_of p d.cap ≤ base_of (cap_at f new.untyped) + start_of (has_child new.untyped f) (free_of (cap_at f new.untyped))
  ends_before r d m =
      (elim (first_child new.untyped f) as (λ o. first_child new.untyped f ≡ o → end_of p d.cap ≤ base_of (cap_at f new.untyped) + start_of (is_some o) (free_of (cap_at f new.untyped))) [
        | None ↦ λ e. absurd (childless-bare new.untyped f e d m)
        | Some child ↦ λ e.
            let s : (s : Entry) × Contains (preorder f) s × (s.slot ≡ new.untyped) × (s.cap ≡ cap_at f new.untyped) = entry_at new.untyped f (untyped_full new.untyped f is.untyped) in
            let D : ℕ → Type 0 = λ i. Contains (descendants (is_at i) f) d in
            let B : Cap → Type 0 = λ c. end_of p d.cap ≤ base_of c + free_of c in
            subst B s.3 (r.used s.0 d s.1 (ap is_untyped s.3 ∙ is.untyped) (subst D (sym s.2) m))
      ]) refl

  module _ (memory : ℕ) (lawful : All (IsLawful p memory) (caps f)) where
    pub untyped_lawful : IsLawful p memory (cap_at f new.untyped)
    untyped_lawful =
        let s : (s : Entry) × Contains (preorder f) s × (s.slot ≡ new.untyped) × (s.cap ≡ cap_at f new.untyped) = entry_at new.untyped f (untyped_full new.untyped f is.untyped) in
        subst (IsLawful p memory) s.3 (each-contained (λ (e : Entry). IsLawful p memory e.cap) (preorder f) s.0 (each_cap (IsLawful p memory) f lawful) s.1)

    -- what `set_free` receives
    pub freed_lawful : IsLawful p memory (with_free new.placed.free (cap_at f new.untyped))
    freed_lawful = lawful_free p memory new.placed.free (cap_at f new.untyped) (let w = lies.within in omega arith) untyped_lawful

    pub new_lawful : (i : ℕ) → i < new.count → IsLawful p memory (new_cap new.shape.kind (object_at new.placed i) new.shape.size_bits)
    new_lawful i lt =
        let e = new_end i in
        let u = lies.used i lt in
        let w = lies.within in
        let m = untyped_lawful.placed.within in
        let a = untyped_lawful.placed.addressed in
        record {
          full = new_some new.shape.kind (object_at new.placed i) new.shape.size_bits;
          placed = record {
            aligned = ap (λ b. b % 2 ^ bits_of p (new_cap new.shape.kind (object_at new.placed i) new.shape.size_bits)) (new_base new.shape.kind (object_at new.placed i) new.shape.size_bits)
                ∙ ap (λ n. object_at new.placed i % 2 ^ n) (new_bits p new.shape.kind (object_at new.placed i) new.shape.size_bits ∙ sym is.shape.bits)
                ∙ lies.aligned untyped_lawful.placed.aligned i;
            within = omega arith;
            addressed = omega arith;
          };
          holds = is.shape.holds (object_at new.placed i);
        }

  module _ (memory : ℕ) (regions : AreRegions p f) (disjoint : IsDisjoint p f) (distinct : IsDistinct eqb (slots f)) (lawful : All (IsLawful p memory) (caps f)) where
    alike : IsAlike p (cap_at f new.untyped) (with_free new.placed.free (cap_at f new.untyped))
    alike = alike_freed p new.placed.free (cap_at f new.untyped)

    new_within : (i : ℕ) → i < new.count → contains p (cap_at f new.untyped) (new_cap new.shape.kind (object_at new.placed i) new.shape.size_bits) ≡ true
    new_within i lt =
        let e = new_end i in
        let b = new_base new.shape.kind (object_at new.placed i) new.shape.size_bits in
        let n = lies.unused i in
        let u = lies.used i lt in
        let w = lies.within in
        contains_from (base_of (cap_at f new.untyped)) (base_of (new_cap new.shape.kind (object_at new.placed i) new.shape.size_bits))
        (end_of p (new_cap new.shape.kind (object_at new.placed i) new.shape.size_bits)) (end_of p (cap_at f new.untyped)) (omega arith) (omega arith)

    new_is : (i : ℕ) → i < new.count
        → IsNew p memory (cap_at (freed new.untyped new.placed.free f) new.untyped) (freed new.untyped new.placed.free f) (slot_of p new.first_slot i, new_cap new.shape.kind (object_at new.placed i) new.shape.size_bits)
    new_is i lt =
        let C : Cap → Type 0 = λ c. IsNew p memory c (freed new.untyped new.placed.free f) (slot_of p new.first_slot i, new_cap new.shape.kind (object_at new.placed i) new.shape.size_bits) in
        subst C (sym (cap-freed_here new.untyped new.placed.free f))
        (record {
          placed = is.slots memory lawful i lt;
          empty = full-freed (slot_of p new.first_slot i) new.untyped new.placed.free f ∙ is.empty i lt;
          lawful = new_lawful memory lawful i lt;
          within = sym (contains-alike_first p (cap_at f new.untyped) (with_free new.placed.free (cap_at f new.untyped)) (new_cap new.shape.kind (object_at new.placed i) new.shape.size_bits) alike) ∙ new_within i lt;
          used = (let e = new_end i in let u = lies.used i lt in let b = alike.base in let z = free_set new.placed.free (cap_at f new.untyped) is.untyped in omega arith);
        })

    -- what stood below the untyped ends where it is used up now
    freed_bound : (d : Entry) → Contains (descendants (is_at new.untyped) f) d → end_of p d.cap ≤ base_of (cap_at f new.untyped) + new.placed.free
    freed_bound d m =
        let b = ends_before regions d m in
        let some = is.some in
        let u = lies.used 0 (omega arith) in
        let n = lies.unused 0 in
        omega arith

    ends_in_front : (c : Entry) → Contains (descendants (is_at new.untyped) (freed new.untyped new.placed.free f)) c → end_of p c.cap ≤ base_of (cap_at f new.untyped) + start_of (has_child new.untyped f) (free_of (cap_at f new.untyped))
    ends_in_front c m =
        let s : (s : Entry) × Contains (preorder f) s × (s.slot ≡ new.untyped) × (s.cap ≡ cap_at f new.untyped) = entry_at new.untyped f (untyped_full new.untyped f is.untyped) in
        let w : Entry → Entry = freed_entry new.untyped new.placed.free in
        let at : (w s.0).slot ≡ new.untyped = slot-freed_entry new.untyped new.placed.free s.0 ∙ s.2 in
        let D : ℕ → Type 0 = λ i. Contains (descendants (is_at i) (freed new.untyped new.placed.free f)) c in
        let E : ℕ → Entry → Type 0 = λ i e. Contains (descendants (is_at i) f) e in
        let keeps = keeps-freed p new.untyped new.placed.free f in
        let d : (d : Entry) × Contains (descendants (is_at s.0.slot) f) d × (c ≡ w d) = descendants-renamed w f s.0 c (keeps.slots s.0 s.1) (subst D (sym at) m) in
        let F : ℕ → Type 0 = λ i. E i d.0 in
        let before = ends_before regions d.0 (subst F s.2 d.1) in
        let same : end_of p (w d.0).cap ≡ end_of p d.0.cap = sym (end-alike p d.0.cap (w d.0).cap (keeps.alike d.0 (below_in d.0 s.0.slot d.1))) in
        let G : Entry → Type 0 = λ e. end_of p e.cap ≤ base_of (cap_at f new.untyped) + start_of (has_child new.untyped f) (free_of (cap_at f new.untyped)) in
        subst G (sym d.2) (omega arith)
      where
        below_in : (d : Entry) (i : ℕ) → Contains (descendants (is_at i) f) d → Contains (preorder f) d
        below_in d i m = contains-below_those (is_at i) f d m

    -- the objects can be made
    pub can_make : CanMake p memory new.untyped (new_caps p new) (freed new.untyped new.placed.free f)
    can_make =
        record {
          untyped_is = ap is_untyped (cap-freed_here new.untyped new.placed.free f) ∙ sym alike.untyped ∙ is.untyped;
          regions = regions-freed p new.untyped new.placed.free f regions distinct freed_bound;
          disjoint = disjoint-freed p new.untyped new.placed.free f disjoint;
          distinct = distinct-freed new.untyped new.placed.free f distinct;
          ends = λ c m. each-range (λ (put : ℕ × Cap). end_of p c.cap ≤ base_of put.1) put_of 0 new.count
              (λ k low high. let b = ends_in_front c m in let n = lies.unused k in let z = new_base new.shape.kind (object_at new.placed k) new.shape.size_bits in omega arith);
          new = each-range (IsNew p memory (cap_at (freed new.untyped new.placed.free f) new.untyped) (freed new.untyped new.placed.free f)) put_of 0 new.count (λ k low high. new_is k (omega arith));
          order = order-range p put_of 0 new.count (λ j k low less high. (
            (let a = lies.apart j k less in let e = new_end j in let z = new_base new.shape.kind (object_at new.placed k) new.shape.size_bits in omega arith),
            slots_differ p new.first_slot j k less,
          ));
        }
      where
        put_of : ℕ → ℕ × Cap
        put_of i = (slot_of p new.first_slot i, new_cap new.shape.kind (object_at new.placed i) new.shape.size_bits)

    -- what holds after

    pub made : CanMake p memory new.untyped [] (with_objects p new f)
    made = all_new p memory new.untyped (new_caps p new) (freed new.untyped new.placed.free f) can_make

    pub made_lawful : All (IsLawful p memory) (caps (with_objects p new f))
    made_lawful =
        all_caps (IsLawful p memory) (with_objects p new f)
        (each-with_new (λ (e : Entry). IsLawful p memory e.cap) new.untyped (new_caps p new) (freed new.untyped new.placed.free f)
        (each-freed (λ (e : Entry). IsLawful p memory e.cap) new.untyped new.placed.free f (each_cap (IsLawful p memory) f lawful) at)
        (each-range (λ (put : ℕ × Cap). IsLawful p memory put.1) (λ i. (slot_of p new.first_slot i, new_cap new.shape.kind (object_at new.placed i) new.shape.size_bits)) 0 new.count (λ k low high. new_lawful memory lawful k (omega arith))))
      where
        at : (e : Entry) → Contains (preorder f) e → e.slot ≡ new.untyped → IsLawful p memory (with_free new.placed.free e.cap)
        at e m s = let held : cap_at f new.untyped ≡ e.cap = ap (cap_at f) (sym s) ∙ cap-entry f e distinct m in
            let Q : Cap → Type 0 = λ c. IsLawful p memory (with_free new.placed.free c) in subst Q held (freed_lawful memory lawful)

    pub made_placed : All (IsSlotAddress p memory) (slots f) → All (IsSlotAddress p memory) (slots (with_objects p new f))
    made_placed h =
        all_slots (IsSlotAddress p memory) (with_objects p new f)
        (each-with_new (λ (e : Entry). IsSlotAddress p memory e.slot) new.untyped (new_caps p new) (freed new.untyped new.placed.free f)
        (each-freed (λ (e : Entry). IsSlotAddress p memory e.slot) new.untyped new.placed.free f (each_slot (IsSlotAddress p memory) f h) (λ e m s. subst (IsSlotAddress p memory) s (each-contained (λ (e : Entry). IsSlotAddress p memory e.slot) (preorder f) e (each_slot (IsSlotAddress p memory) f h) m)))
        (each-range (λ (put : ℕ × Cap). IsSlotAddress p memory put.0) (λ i. (slot_of p new.first_slot i, new_cap new.shape.kind (object_at new.placed i) new.shape.size_bits)) 0 new.count (λ k low high. is.slots memory lawful k (omega arith))))
