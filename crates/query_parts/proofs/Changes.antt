-- What each operation does to the full slots: each stands in the part with what may stand there, or holds what it held.
use Rattle.std.proofs.Common.{◌≡◌, ℕ, ◌^◌, ◌<◌, ◌≤◌, ◌⊎◌, inl, inr, true, false, cond, ◌==◌, List, [], ◌∷◌, Some, eqb, refl, sym, ap, subst, ◌∙◌, arith}
use Rattle.std.specs.List.{AllByRecursion as Each, Contains, IsDistinct}
use Rattle.std.proofs.lemmas.Bool.{false≢true, eqb-true}
use Rattle.cap_core.specs.declared.profile.ProfileName.{ProfileName}
use Rattle.cap_core.specs.declared.capability.Cap.{Cap}
use Rattle.cap_core.specs.declared.capability.Cap.TheVariants.{Null, Untyped, Endpoint, CNode, Tcb}
use Rattle.cap_core.specs.Objects.{is_untyped, base_of, bits_of, end_of}
use Rattle.cap_core.specs.Kinds.{new_cap}
use Rattle.mem_core.specs.Plans.{object_at}
use Rattle.kernel_forest.specs.Forest.{Forest, preorder}
use Rattle.kernel_forest.specs.Entries.{Entry, entry, slots, cap_in, cap_at}
use Rattle.kernel_forest.specs.Derivation.{derived, freed}
use Rattle.kernel_forest.proofs.Trees.Forests.{each-weaker, each-contained, each-contains}
use Rattle.kernel_forest.proofs.Slots.Edits.{each-derived}
use Rattle.kernel_forest.proofs.Slots.Freed.{each-freed}
use Rattle.kernel_forest.proofs.Slots.Moved.{each-moved}
use Rattle.kernel_forest.proofs.Slots.Holding.{cap-entry}
use Rattle.cspace_core.specs.Resolution.{slot_of}
use Rattle.kernel_delete.specs.Least.{cleared}
use Rattle.kernel_delete.specs.Clear.{clear}
use Rattle.kernel_delete.specs.Revoke.{revoke}
use Rattle.kernel_delete.proofs.Kept.{each-without, kept-revoke}
use Rattle.kernel_abstract.specs.declared.invocation.NewObjects.{NewObjects}
use Rattle.kernel_abstract.specs.declared.invocation.NewSpace.{NewSpace}
use Rattle.kernel_abstract.specs.declared.invocation.CapPlacement.{CapPlacement}
use Rattle.kernel_abstract.specs.Retyping.{new_caps, with_objects}
use Rattle.kernel_abstract.specs.CNodes.{with_derived, with_moved}
use Rattle.kernel_abstract.specs.Threads.{with_space}
use Rattle.kernel_abstract.specs.Private.Invocations.{IsRetype, IsSpace}
use Rattle.kernel_abstract.proofs.Capabilities.SpacesSet.{space_kept}
use Rattle.kernel_abstract.proofs.Retype.PutInOrder.{each-with_new}
use Rattle.kernel_abstract.proofs.Retype.RetypedForest.{each-range, new_base, lies, new_end}
use Rattle.query_parts.specs.Parts.{Parts, IsWithin, IsClosed, IsUntouched}
use Rattle.query_parts.proofs.Within.{within-free, owned_within}
use Rattle.query_parts.proofs.Passed.{IsPlacedIn, IsMadeIn, IsSpaceIn}

-- a slot of the part with what may stand there, or a slot that holds what it held
abbrev pub IsFine : ProfileName → Parts → ℕ → Forest Entry → Entry → Type 0
IsFine p parts i f e = ((parts.part_of e.slot ≡ Some i) × IsWithin p parts i e.cap) ⊎ (e.cap ≡ cap_at f e.slot)

-- each full slot is one of these
abbrev pub IsChange : ProfileName → Parts → ℕ → Forest Entry → Forest Entry → Type 0
IsChange p parts i f g = Each (IsFine p parts i f) (preorder g)

-- what a slot holds is what some entry holds, or nothing
pub held_by : (P : Entry → Type 0) (slot : ℕ) (es : List Entry) → Each P es →
    (cap_in slot es ≡ Null) ⊎ ((e : Entry) × ((e.slot ≡ slot) × ((e.cap ≡ cap_in slot es) × P e)))
held_by P slot [] h = inl refl
held_by P slot (e ∷ es) h =
    (elim (e.slot == slot) as
    (λ b. (e.slot == slot) ≡ b → (cond b e.cap (cap_in slot es) ≡ Null) ⊎ ((x : Entry) × ((x.slot ≡ slot) × ((x.cap ≡ cond b e.cap (cap_in slot es)) × P x)))) [
      | true ↦ λ is. inr (e, (eqb-true e.slot slot is, (refl, h.0)))
      | false ↦ λ is. held_by P slot es h.1
    ]) refl

-- a region of the part
region_within : (p : ProfileName) (parts : Parts) (i : ℕ) (u cap : Cap) → is_untyped u ≡ true → IsWithin p parts i u →
    base_of u ≤ base_of cap → end_of p cap ≤ end_of p u → IsWithin p parts i cap
region_within p parts i (Untyped base bits free) cap h w low high = owned_within p parts i base bits free cap w low high
region_within p parts i Null cap h w low high = absurd (false≢true h)
region_within p parts i (Endpoint base badge rights) cap h w low high = absurd (false≢true h)
region_within p parts i (CNode base radix guard) cap h w low high = absurd (false≢true h)
region_within p parts i (Tcb base) cap h w low high = absurd (false≢true h)

module _ (p : ProfileName) (parts : Parts) (i : ℕ) (f : Forest Entry) (closed : IsClosed p parts i f) where
  -- a change leaves the part closed, and the others untouched
  pub change_closed : (g : Forest Entry) → IsChange p parts i f g → IsClosed p parts i g
  change_closed g h slot own = by (held_by (IsFine p parts i f) slot (preorder g) h)
    where
      by : (cap_at g slot ≡ Null) ⊎ ((e : Entry) × ((e.slot ≡ slot) × ((e.cap ≡ cap_at g slot) × IsFine p parts i f e))) →
          IsWithin p parts i (cap_at g slot)
      by (inl null) = subst (IsWithin p parts i) (sym null) tt
      by (inr (e, (at, (is, inl new)))) = subst (IsWithin p parts i) is new.1
      by (inr (e, (at, (is, inr old)))) =
          subst (IsWithin p parts i) (ap (cap_at f) (sym at) ∙ sym old ∙ is) (closed slot own)

  pub change_untouched : (g : Forest Entry) → IsChange p parts i f g → IsUntouched parts i f g
  change_untouched g h slot other = by (held_by (IsFine p parts i f) slot (preorder g) h)
    where
      by : (cap_at g slot ≡ Null) ⊎ ((e : Entry) × ((e.slot ≡ slot) × ((e.cap ≡ cap_at g slot) × IsFine p parts i f e))) →
          (cap_at g slot ≡ cap_at f slot) ⊎ (cap_at g slot ≡ Null)
      by (inl null) = inr null
      by (inr (e, (at, (is, inl new)))) = absurd (other (subst (λ n. parts.part_of n ≡ Some i) at new.0))
      by (inr (e, (at, (is, inr old)))) = inl (sym is ∙ old ∙ ap (cap_at f) at)

  module _ (distinct : IsDistinct eqb (slots f)) where
    -- nothing changes
    pub unchanged : IsChange p parts i f f
    unchanged =
        each-weaker (Contains (preorder f)) (IsFine p parts i f) (λ e m. inr (sym (cap-entry f e distinct m))) (preorder f)
        (each-contains (preorder f))

    -- a slot is cleared, and revoked
    pub change-clear : (slot : ℕ) (g : Forest Entry) → IsChange p parts i f g → IsChange p parts i f (clear p slot g)
    change-clear slot g h = each-without (IsFine p parts i f) (λ (e : Entry). cleared p (preorder g) slot e.slot) g h

    pub change-revoke : (slot : ℕ) → IsChange p parts i f (revoke p slot f)
    change-revoke slot = kept-revoke p (IsChange p parts i f) (λ c g h. change-clear c g h) slot f unchanged

    -- a slot of the part gets what may stand there
    change-derived : (source slot : ℕ) (cap : Cap) (g : Forest Entry) → parts.part_of slot ≡ Some i → IsWithin p parts i cap →
        IsChange p parts i f g → IsChange p parts i f (derived source slot cap g)
    change-derived source slot cap g own w h = each-derived (IsFine p parts i f) source slot cap g h (inl (own, w))

    -- how much is used of a region of the part
    change-freed : (slot free : ℕ) (g : Forest Entry) → parts.part_of slot ≡ Some i → IsChange p parts i f g →
        IsChange p parts i f (freed slot free g)
    change-freed slot free g own h =
        each-freed (IsFine p parts i f) slot free g h
        (λ e m at. inl (own, within-free p parts i free e.cap (by e at (each-contained (IsFine p parts i f) (preorder g) e h m))))
      where
        by : (e : Entry) → e.slot ≡ slot → IsFine p parts i f e → IsWithin p parts i e.cap
        by e at (inl new) = new.1
        by e at (inr old) = subst (IsWithin p parts i) (ap (cap_at f) (sym at) ∙ sym old) (closed slot own)

    pub change-with_derived : (placement : CapPlacement) → IsPlacedIn p parts i placement → IsChange p parts i f (with_derived p placement f)
    change-with_derived placement is =
        elim (is_untyped placement.cap) as
        (λ b. IsChange p parts i f (cond b (freed placement.source (2 ^ bits_of p placement.cap) put) put)) [
          | true ↦ change-freed placement.source (2 ^ bits_of p placement.cap) put is.source put_is
          | false ↦ put_is
        ]
      where
        put : Forest Entry
        put = derived placement.source placement.slot placement.cap f

        put_is : IsChange p parts i f put
        put_is = change-derived placement.source placement.slot placement.cap f is.slot is.cap unchanged

    pub change-with_moved : (placement : CapPlacement) → IsPlacedIn p parts i placement → IsChange p parts i f (with_moved placement f)
    change-with_moved placement is =
        each-moved (IsFine p parts i f) placement.source placement.slot placement.cap f unchanged (λ original. inl (is.slot, is.cap))

    pub change-with_space : (new : NewSpace) → IsSpace p f new → IsSpaceIn p parts i new → IsChange p parts i f (with_space p new f)
    change-with_space new is stays =
        let left = change-clear new.tcb f unchanged in
        space_kept p f distinct new is (IsChange p parts i f) left
        (λ d. change-derived new.source new.tcb new.cap (clear p new.tcb f) stays.tcb stays.cap left)

    -- the new objects lie in the region
    made_within : (new : NewObjects) → IsRetype p f new → parts.part_of new.untyped ≡ Some i → (k : ℕ) → k < new.count →
        IsWithin p parts i (new_cap new.shape.kind (object_at new.placed k) new.shape.size_bits)
    made_within new is own k low =
        let e = new_end p f new is k in
        let b = new_base new.shape.kind (object_at new.placed k) new.shape.size_bits in
        let lie = lies p f new is in
        let n = lie.unused k in
        let u = lie.used k low in
        let w = lie.within in
        region_within p parts i (cap_at f new.untyped) (new_cap new.shape.kind (object_at new.placed k) new.shape.size_bits) is.untyped
        (closed new.untyped own) (omega arith) (omega arith)

    pub change-with_objects : (new : NewObjects) → IsRetype p f new → IsMadeIn p parts i new → IsChange p parts i f (with_objects p new f)
    change-with_objects new is stays =
        each-with_new (IsFine p parts i f) new.untyped (new_caps p new) (freed new.untyped new.placed.free f)
        (change-freed new.untyped new.placed.free f stays.untyped unchanged)
        (each-range (λ (put : ℕ × Cap). IsFine p parts i f (entry put.0 put.1 true))
        (λ k. (slot_of p new.first_slot k, new_cap new.shape.kind (object_at new.placed k) new.shape.size_bits)) 0 new.count
        (λ k low high. inl (stays.slots k (omega (arith, high)), made_within new is stays.untyped k (omega (arith, high)))))
