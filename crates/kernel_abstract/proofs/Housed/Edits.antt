-- Full slots still lie in live objects after an edit of the derivation forest.
use Rattle.std.proofs.Common.{◌≡◌, ℕ, ◌^◌, Bool, true, false, cond, ◌==◌, ◌||◌, List, [], ◌∷◌, map, eqb, refl, sym, ap, subst, ◌∙◌, arith}
use Rattle.std.specs.List.{list_any, AllByRecursion as Each, Contains, IsDistinct}
use Rattle.std.proofs.lemmas.Bool.{false≢true, eqb-true}
use Rattle.cap_core.specs.declared.profile.ProfileName.{ProfileName}
use Rattle.cap_core.specs.declared.capability.Cap.{Cap}
use Rattle.cap_core.specs.declared.capability.Cap.TheVariants.{Null, Untyped, Endpoint, CNode, Tcb}
use Rattle.cap_core.specs.Objects.{is_untyped, bits_of}
use Rattle.kernel_forest.specs.Forest.{Forest, preorder}
use Rattle.kernel_forest.specs.Entries.{Entry, entry, slots, cap_at, is_full}
use Rattle.kernel_forest.specs.Derivation.{derived, freed, moved, with_free, names_same}
use Rattle.kernel_forest.proofs.Trees.Forests.{each-weaker, each-contained, each-contains}
use Rattle.kernel_forest.proofs.Slots.Edits.{each-derived, any-derived}
use Rattle.kernel_forest.proofs.Slots.Freed.{each-freed, any-freed, full-freed}
use Rattle.kernel_forest.proofs.Slots.Moved.{moved_entry, preorder-moved, each-moved}
use Rattle.kernel_forest.proofs.Slots.Holding.{cap-entry}
use Rattle.mem_core.specs.Plans.{object_at}
use Rattle.cap_core.specs.Kinds.{new_cap}
use Rattle.cspace_core.specs.Resolution.{slot_of}
use Rattle.kernel_forest.specs.Slots.{slots_of}
use Rattle.kernel_delete.specs.Clear.{clear}
use Rattle.kernel_delete.specs.Housed.{is_housed, IsHoused}
use Rattle.kernel_delete.proofs.Objects.{same_slots}
use Rattle.kernel_delete.proofs.Kept.{housed-clear}
use Rattle.kernel_abstract.specs.declared.invocation.CapPlacement.{CapPlacement}
use Rattle.kernel_abstract.specs.declared.invocation.NewObjects.{NewObjects}
use Rattle.kernel_abstract.specs.declared.invocation.NewSpace.{NewSpace}
use Rattle.kernel_abstract.specs.CNodes.{with_derived, with_moved}
use Rattle.kernel_abstract.specs.Retyping.{new_caps, with_objects}
use Rattle.kernel_abstract.specs.Threads.{with_space}
use Rattle.kernel_abstract.specs.Private.Invocations.{IsPlacement, IsRetype, IsSpace}
use Rattle.kernel_abstract.proofs.Lists.Rising.{or_true}
use Rattle.kernel_abstract.proofs.Retype.LiveRetyped.{any-with_new, untyped_full}
use Rattle.kernel_abstract.proofs.Retype.PutInOrder.{each-with_new}
use Rattle.kernel_abstract.proofs.Retype.RetypedForest.{each-range}
use Rattle.kernel_abstract.proofs.Capabilities.SpacesSet.{space_kept}

-- a free index, and what else of a capability is no part of its object, change none of its slots
slots_freed : (p : ProfileName) (free : ℕ) (cap : Cap) → slots_of p (with_free free cap) ≡ slots_of p cap
unfolding slots_of
slots_freed p free Null = refl
slots_freed p free (Untyped base bits former) = refl
slots_freed p free (Endpoint base badge rights) = refl
slots_freed p free (CNode base radix guard) = refl
slots_freed p free (Tcb base) = refl

slots_named : (p : ProfileName) (a b : Cap) → names_same a b ≡ true → slots_of p a ≡ slots_of p b
unfolding slots_of
slots_named p (Untyped base bits free) Null h = absurd (false≢true h)
slots_named p (Untyped base bits free) (Untyped i bits' free') h = refl
slots_named p (Untyped base bits free) (Endpoint i badge rights) h = absurd (false≢true h)
slots_named p (Untyped base bits free) (CNode i radix guard) h = absurd (false≢true h)
slots_named p (Untyped base bits free) (Tcb i) h = absurd (false≢true h)
slots_named p Null b h = same_slots p Null b h
slots_named p (Endpoint base badge rights) b h = same_slots p (Endpoint base badge rights) b h
slots_named p (CNode base radix guard) b h = same_slots p (CNode base radix guard) b h
slots_named p (Tcb base) b h = same_slots p (Tcb base) b h

-- whether a slot is one of the object that a capability names
abbrev houses : ProfileName → ℕ → Cap → Bool
houses p n cap = list_any (λ m. m == n) (slots_of p cap)

-- what stood in live objects does, where their slots are still slots of live objects
old_stand : (p : ProfileName) (f g : Forest Entry) → ((n : ℕ) → is_housed p f n ≡ true → is_housed p g n ≡ true) →
    IsHoused p f → Each (λ (e : Entry). is_housed p g e.slot ≡ true) (preorder f)
old_stand p f g stays h =
    each-weaker (λ (e : Entry). is_housed p f e.slot ≡ true) (λ (e : Entry). is_housed p g e.slot ≡ true)
    (λ e is. stays e.slot is) (preorder f) h

housed-derived : (p : ProfileName) (source slot : ℕ) (cap : Cap) (f : Forest Entry) → is_full source f ≡ true →
    is_housed p f slot ≡ true →
    IsHoused p f → IsHoused p (derived source slot cap f)
housed-derived p source slot cap f full new h =
    each-derived (λ (e : Entry). is_housed p (derived source slot cap f) e.slot ≡ true) source slot cap f
    (old_stand p f (derived source slot cap f) stays h) (stays slot new)
  where
    stays : (n : ℕ) → is_housed p f n ≡ true → is_housed p (derived source slot cap f) n ≡ true
    stays n is = any-derived (λ (e : Entry). houses p n e.cap) source slot cap f full ∙ ap (λ b. b || houses p n cap) is

still-freed : (p : ProfileName) (slot free : ℕ) (f : Forest Entry) (n : ℕ) → is_housed p f n ≡ true →
    is_housed p (freed slot free f) n ≡ true
still-freed p slot free f n is =
    any-freed (λ (e : Entry). houses p n e.cap) slot free f
    (λ e. ap (list_any (λ m. m == n)) (slots_freed p free e.cap)) ∙ is

housed-freed : (p : ProfileName) (slot free : ℕ) (f : Forest Entry) → IsHoused p f → IsHoused p (freed slot free f)
housed-freed p slot free f h =
    let Stands : Entry → Type 0 = λ e. is_housed p (freed slot free f) e.slot ≡ true in
    let old = old_stand p f (freed slot free f) (still-freed p slot free f) h in
    each-freed Stands slot free f old
    (λ e m s. subst (λ n. is_housed p (freed slot free f) n ≡ true) s (each-contained Stands (preorder f) e old m))

pub housed-with_derived : (p : ProfileName) (f : Forest Entry) (placement : CapPlacement) → IsPlacement p f placement →
    IsHoused p f → IsHoused p (with_derived p placement f)
housed-with_derived p f placement is h =
    elim (is_untyped placement.cap) as
    (λ b. IsHoused p (cond b (freed placement.source (2 ^ bits_of p placement.cap) put) put)) [
      | true ↦ housed-freed p placement.source (2 ^ bits_of p placement.cap) put housed
      | false ↦ housed
    ]
  where
    put : Forest Entry
    put = derived placement.source placement.slot placement.cap f

    housed : IsHoused p put
    housed = housed-derived p placement.source placement.slot placement.cap f is.full is.housed h

pub housed-with_moved : (p : ProfileName) (f : Forest Entry) (placement : CapPlacement) → IsDistinct eqb (slots f) →
    IsPlacement p f placement →
    IsHoused p f → IsHoused p (with_moved placement f)
housed-with_moved p f placement distinct is h =
    each-moved (λ (e : Entry). is_housed p g e.slot ≡ true) placement.source placement.slot placement.cap f
    (old_stand p f g stays h) (λ original. stays placement.slot is.housed)
  where
    g : Forest Entry
    g = moved placement.source placement.slot placement.cap f

    one : (n : ℕ) (e : Entry) → Contains (preorder f) e →
        houses p n (moved_entry placement.source placement.slot placement.cap e).cap ≡ houses p n e.cap
    one n e m =
        (elim (e.slot == placement.source) as
        (λ c. (e.slot == placement.source) ≡ c →
        houses p n (cond c (entry placement.slot placement.cap e.original) e).cap ≡ houses p n e.cap) [
          | true ↦
              λ here. ap (list_any (λ k. k == n)) (sym (slots_named p (cap_at f placement.source) placement.cap is.same)
              ∙ ap (slots_of p)
              (ap (cap_at f) (sym (eqb-true e.slot placement.source here)) ∙ cap-entry f e distinct m))
          | false ↦ λ other. refl
        ]) refl

    all : (n : ℕ) (l : List Entry) → Each (Contains (preorder f)) l →
        list_any (λ (e : Entry). houses p n e.cap)
        (map (moved_entry placement.source placement.slot placement.cap) l)
        ≡ list_any (λ (e : Entry). houses p n e.cap) l
    all n [] m = refl
    all n (e ∷ l) m =
        ap
        (λ b. b || list_any (λ (x : Entry). houses p n x.cap)
        (map (moved_entry placement.source placement.slot placement.cap) l)) (one n e m.0)
        ∙ ap (λ b. houses p n e.cap || b) (all n l m.1)

    stays : (n : ℕ) → is_housed p f n ≡ true → is_housed p g n ≡ true
    stays n is' =
        ap (list_any (λ (e : Entry). houses p n e.cap)) (preorder-moved placement.source placement.slot placement.cap f)
        ∙ all n (preorder f) (each-contains (preorder f)) ∙ is'

pub housed-with_objects : (p : ProfileName) (f : Forest Entry) (new : NewObjects) → IsRetype p f new → IsHoused p f →
    IsHoused p (with_objects p new f)
housed-with_objects p f new is h =
    each-with_new (λ (e : Entry). is_housed p g e.slot ≡ true) new.untyped (new_caps p new) base
    (old_stand p base g stays (housed-freed p new.untyped new.placed.free f h))
    (each-range (λ (put : ℕ × Cap). is_housed p g put.0 ≡ true)
    (λ i. (slot_of p new.first_slot i, new_cap new.shape.kind (object_at new.placed i) new.shape.size_bits)) 0 new.count
    (λ i low high. stays (slot_of p new.first_slot i)
    (still-freed p new.untyped new.placed.free f (slot_of p new.first_slot i) (is.housed i (omega (arith, high))))))
  where
    base : Forest Entry
    base = freed new.untyped new.placed.free f

    g : Forest Entry
    g = with_objects p new f

    stays : (n : ℕ) → is_housed p base n ≡ true → is_housed p g n ≡ true
    stays n is' =
        let puts : Bool = list_any (λ (put : ℕ × Cap). houses p n put.1) (new_caps p new) in
        any-with_new (λ (e : Entry). houses p n e.cap) new.untyped (new_caps p new) base
        (full-freed new.untyped new.untyped new.placed.free f ∙ untyped_full new.untyped f is.untyped)
        ∙ ap (λ b. puts || b) is' ∙ or_true puts

pub housed-with_space : (p : ProfileName) (f : Forest Entry) (new : NewSpace) → IsDistinct eqb (slots f) →
    IsSpace p f new →
    IsHoused p f → IsHoused p (with_space p new f)
housed-with_space p f new distinct is h =
    let cleared = housed-clear p new.tcb f h in
    space_kept p f distinct new is (IsHoused p) cleared
    (λ d. housed-derived p new.source new.tcb new.cap (clear p new.tcb f) d.ends.full d.ends.housed cleared)
