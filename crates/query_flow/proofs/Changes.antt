-- What each operation does to the full slots: each holds what may stand there.
use Rattle.std.proofs.Common.{◌≡◌, ℕ, ◌^◌, ◌<◌, ◌≤◌, ◌⊎◌, inl, inr, true, false, cond, ◌==◌, List, [], ◌∷◌, eqb, refl, sym, subst, arith}
use Rattle.std.specs.List.{AllByRecursion as Each, Contains, IsDistinct}
use Rattle.std.proofs.lemmas.Bool.{false≢true, eqb-true}
use Rattle.cap_core.specs.declared.profile.ProfileName.{ProfileName}
use Rattle.cap_core.specs.declared.capability.Cap.{Cap}
use Rattle.cap_core.specs.declared.capability.Cap.TheVariants.{Null, Untyped, Endpoint, CNode, Tcb}
use Rattle.cap_core.specs.Objects.{is_untyped, base_of, bits_of, end_of}
use Rattle.cap_core.specs.Kinds.{new_cap}
use Rattle.mem_core.specs.Plans.{object_at}
use Rattle.kernel_forest.specs.Forest.{Forest, preorder}
use Rattle.kernel_forest.specs.Entries.{Entry, entry, slots, cap_in, cap_at}
use Rattle.kernel_forest.specs.Derivation.{derived, freed, with_free}
use Rattle.kernel_forest.proofs.Trees.Forests.{each-weaker, each-contained, each-contains}
use Rattle.kernel_forest.proofs.Slots.Edits.{each-derived}
use Rattle.kernel_forest.proofs.Slots.Freed.{each-freed}
use Rattle.kernel_forest.proofs.Slots.Moved.{each-moved}
use Rattle.kernel_forest.proofs.Slots.Holding.{cap-entry}
use Rattle.cspace_core.specs.Resolution.{slot_of}
use Rattle.kernel_delete.specs.Least.{cleared}
use Rattle.kernel_delete.specs.Clear.{clear}
use Rattle.kernel_delete.specs.Revoke.{revoke}
use Rattle.kernel_delete.proofs.Kept.{each-without, kept-revoke}
use Rattle.kernel_abstract.specs.declared.invocation.NewObjects.{NewObjects}
use Rattle.kernel_abstract.specs.declared.invocation.NewSpace.{NewSpace}
use Rattle.kernel_abstract.specs.declared.invocation.CapPlacement.{CapPlacement}
use Rattle.kernel_abstract.specs.Retyping.{new_caps, with_objects}
use Rattle.kernel_abstract.specs.CNodes.{with_derived, with_moved}
use Rattle.kernel_abstract.specs.Threads.{with_space}
use Rattle.kernel_abstract.specs.Private.Invocations.{IsRetype, IsSpace}
use Rattle.kernel_abstract.proofs.Capabilities.SpacesSet.{space_kept}
use Rattle.kernel_abstract.proofs.Retype.PutInOrder.{each-with_new}
use Rattle.kernel_abstract.proofs.Retype.RetypedForest.{each-range, new_base, lies, new_end}
use Rattle.query_flow.specs.Flow.{Flow, StandsAt, HoldsWhatMayStand, IsSettled, IsSettledFor}
use Rattle.query_flow.proofs.Passed.{IsPlacedIn, IsMadeIn}

-- a full slot holds what may stand there
abbrev pub IsFine : Flow → Entry → Type 0
IsFine flow e = StandsAt flow e.slot e.cap

abbrev pub AreFine : Flow → Forest Entry → Type 0
AreFine flow f = Each (IsFine flow) (preorder f)

-- what a slot holds is what some entry holds, or nothing
held_in : (P : Entry → Type 0) (slot : ℕ) (es : List Entry) → Each P es →
    (cap_in slot es ≡ Null) ⊎ ((e : Entry) × ((e.slot ≡ slot) × ((e.cap ≡ cap_in slot es) × P e)))
held_in P slot [] h = inl refl
held_in P slot (e ∷ es) h =
    (elim (e.slot == slot) as
    (λ b. (e.slot == slot) ≡ b → (cond b e.cap (cap_in slot es) ≡ Null) ⊎ ((x : Entry) × ((x.slot ≡ slot) × ((x.cap ≡ cond b e.cap (cap_in slot es)) × P x)))) [
      | true ↦ λ is. inr (e, (eqb-true e.slot slot is, (refl, h.0)))
      | false ↦ λ is. held_in P slot es h.1
    ]) refl

module _ (p : ProfileName) (flow : Flow) (settled : IsSettled p flow) where
  pub held_of_fine : (f : Forest Entry) → AreFine flow f → HoldsWhatMayStand flow f
  held_of_fine f h slot = by (held_in (IsFine flow) slot (preorder f) h)
    where
      by : (cap_at f slot ≡ Null) ⊎ ((e : Entry) × ((e.slot ≡ slot) × ((e.cap ≡ cap_at f slot) × IsFine flow e))) → StandsAt flow slot (cap_at f slot)
      by (inl null) = subst (StandsAt flow slot) (sym null) (settled.empties (flow.set_of slot))
      by (inr (e, (at, (is, fine)))) = subst (λ n. StandsAt flow n (cap_at f slot)) at (subst (StandsAt flow e.slot) is fine)

  pub fine_of_held : (f : Forest Entry) → IsDistinct eqb (slots f) → HoldsWhatMayStand flow f → AreFine flow f
  fine_of_held f distinct held =
      each-weaker (Contains (preorder f)) (IsFine flow) (λ e m. subst (StandsAt flow e.slot) (cap-entry f e distinct m) (held e.slot)) (preorder f)
      (each-contains (preorder f))

  -- a slot is cleared, and revoked
  pub fine-clear : (slot : ℕ) (g : Forest Entry) → AreFine flow g → AreFine flow (clear p slot g)
  fine-clear slot g h = each-without (IsFine flow) (λ (e : Entry). cleared p (preorder g) slot e.slot) g h

  pub fine-revoke : (slot : ℕ) (f : Forest Entry) → AreFine flow f → AreFine flow (revoke p slot f)
  fine-revoke slot f h = kept-revoke p (AreFine flow) (λ c g h. fine-clear c g h) slot f h

  stands-free : (slot free : ℕ) (cap : Cap) → StandsAt flow slot cap → StandsAt flow slot (with_free free cap)
  stands-free slot free Null h = h
  stands-free slot free (Untyped base bits former) h = settled.used (flow.set_of slot) base bits former free h
  stands-free slot free (Endpoint base badge rights) h = h
  stands-free slot free (CNode base radix guard) h = h
  stands-free slot free (Tcb base) h = h

  -- how much is used of a region
  fine-freed : (slot free : ℕ) (g : Forest Entry) → AreFine flow g → AreFine flow (freed slot free g)
  fine-freed slot free g h =
      each-freed (IsFine flow) slot free g h (λ e m at. subst (λ n. StandsAt flow n (with_free free e.cap)) at (stands-free e.slot free e.cap (each-contained (IsFine flow) (preorder g) e h m)))

  module _ (c : ℕ) (f : Forest Entry) (fine : AreFine flow f) where
    placed_stands : (placement : CapPlacement) → IsPlacedIn p flow c placement → StandsAt flow placement.slot placement.cap
    placed_stands placement is = is.cap (flow.set_of placement.slot) is.slot

    pub fine-with_derived : (placement : CapPlacement) → IsPlacedIn p flow c placement → AreFine flow (with_derived p placement f)
    fine-with_derived placement is =
        elim (is_untyped placement.cap) as
        (λ b. AreFine flow (cond b (freed placement.source (2 ^ bits_of p placement.cap) put) put)) [
          | true ↦ fine-freed placement.source (2 ^ bits_of p placement.cap) put put_is
          | false ↦ put_is
        ]
      where
        put : Forest Entry
        put = derived placement.source placement.slot placement.cap f

        put_is : AreFine flow put
        put_is = each-derived (IsFine flow) placement.source placement.slot placement.cap f fine (placed_stands placement is)

    pub fine-with_moved : (placement : CapPlacement) → IsPlacedIn p flow c placement → AreFine flow (with_moved placement f)
    fine-with_moved placement is =
        each-moved (IsFine flow) placement.source placement.slot placement.cap f fine (λ original. placed_stands placement is)

    pub fine-with_space : IsDistinct eqb (slots f) → (new : NewSpace) → IsSpace p f new → StandsAt flow new.tcb new.cap → AreFine flow (with_space p new f)
    fine-with_space distinct new is stays =
        let left = fine-clear new.tcb f fine in
        space_kept p f distinct new is (AreFine flow) left
        (λ d. each-derived (IsFine flow) new.source new.tcb new.cap (clear p new.tcb f) left stays)

    -- what is made in a region that a word leads to
    region_makes : IsSettledFor p flow c → (from to : ℕ) (u made : Cap) → is_untyped u ≡ true → flow.names c from ≡ true → flow.fills c to ≡ true → flow.may from u ≡ true →
        base_of u ≤ base_of made → end_of p made ≤ end_of p u → flow.may to made ≡ true
    region_makes caller from to (Untyped base bits free) made h named filled may low high =
        caller.makes from to base bits free made named filled may low high
    region_makes caller from to Null made h named filled may low high = absurd (false≢true h)
    region_makes caller from to (Endpoint base badge rights) made h named filled may low high = absurd (false≢true h)
    region_makes caller from to (CNode base radix guard) made h named filled may low high = absurd (false≢true h)
    region_makes caller from to (Tcb base) made h named filled may low high = absurd (false≢true h)

    made_stands : IsSettledFor p flow c → HoldsWhatMayStand flow f → (new : NewObjects) → IsRetype p f new → IsMadeIn p flow c new → (k : ℕ) → k < new.count →
        StandsAt flow (slot_of p new.first_slot k) (new_cap new.shape.kind (object_at new.placed k) new.shape.size_bits)
    made_stands caller held new is stays k low =
        let e = new_end p f new is k in
        let b = new_base new.shape.kind (object_at new.placed k) new.shape.size_bits in
        let lie = lies p f new is in
        let n = lie.unused k in
        let u = lie.used k low in
        let w = lie.within in
        region_makes caller (flow.set_of new.untyped) (flow.set_of (slot_of p new.first_slot k)) (cap_at f new.untyped)
        (new_cap new.shape.kind (object_at new.placed k) new.shape.size_bits) is.untyped stays.untyped (stays.slots k low) (held new.untyped)
        (omega arith) (omega arith)

    pub fine-with_objects : IsSettledFor p flow c → HoldsWhatMayStand flow f → (new : NewObjects) → IsRetype p f new → IsMadeIn p flow c new → AreFine flow (with_objects p new f)
    fine-with_objects caller held new is stays =
        each-with_new (IsFine flow) new.untyped (new_caps p new) (freed new.untyped new.placed.free f)
        (fine-freed new.untyped new.placed.free f fine)
        (each-range (λ (put : ℕ × Cap). IsFine flow (entry put.0 put.1 true))
        (λ k. (slot_of p new.first_slot k, new_cap new.shape.kind (object_at new.placed k) new.shape.size_bits)) 0 new.count
        (λ k low high. made_stands caller held new is stays k (omega (arith, high))))
