-- The objects that a part's slots name are those that they named before, or lie in the untyped regions that they held.
use Rattle.std.proofs.Common.{◌≡◌, ℕ, ◌^◌, ◌≤◌, ◌<◌, ◌⊎◌, inl, inr, true, false, cond, nat_le, ◌==◌, ◌&&◌, List, [], ◌∷◌, Some, Result, Ok, Err, refl, sym, ap, subst, ◌∙◌, arith, eq-eqb}
use Rattle.std.specs.List.{AllByRecursion as Each, Contains}
use Rattle.std.proofs.lemmas.Bool.{eqb-true, false≢true}
use Rattle.std.proofs.lemmas.Bool.Decides.{nat_tests}
use Rattle.cap_core.specs.declared.profile.ProfileName.{ProfileName}
use Rattle.cap_core.specs.declared.capability.Cap.{Cap}
use Rattle.cap_core.specs.declared.capability.Cap.TheVariants.{Null, Untyped, Endpoint, CNode, Tcb}
use Rattle.cap_core.specs.declared.refusal.Refusal.{Refusal}
use Rattle.cap_core.specs.Objects.{is_null, is_untyped, base_of, bits_of, end_of, contains, in_region, IsLawful}
use Rattle.cap_core.specs.Kinds.{new_cap}
use Rattle.mem_core.specs.Plans.{object_at}
use Rattle.kernel_forest.specs.Forest.{Forest, preorder}
use Rattle.kernel_forest.specs.Entries.{Entry, entry, cap_at}
use Rattle.kernel_forest.specs.Derivation.{derived, freed, names_same, with_free}
use Rattle.kernel_forest.proofs.Trees.Forests.{each-weaker, each-contained, each-contains}
use Rattle.kernel_forest.proofs.Disjoint.Alike.{alike_freed}
use Rattle.kernel_forest.proofs.Disjoint.InRegion.{names_one, one_alike, region-self, region-transitive}
use Rattle.kernel_forest.proofs.Slots.Edits.{each-derived}
use Rattle.kernel_forest.proofs.Slots.Freed.{each-freed}
use Rattle.kernel_forest.proofs.Slots.Moved.{each-moved}
use Rattle.kernel_forest.proofs.Slots.Holding.{cap-entry}
use Rattle.cspace_core.specs.Resolution.{slot_of}
use Rattle.kernel_delete.specs.Least.{cleared}
use Rattle.kernel_delete.specs.Clear.{clear}
use Rattle.kernel_delete.proofs.Kept.{each-without, kept-revoke}
use Rattle.kernel_abstract.specs.declared.call.Call.{Call}
use Rattle.kernel_abstract.specs.declared.invocation.CapPlacement.{CapPlacement}
use Rattle.kernel_abstract.specs.declared.invocation.NewObjects.{NewObjects}
use Rattle.kernel_abstract.specs.declared.invocation.NewSpace.{NewSpace}
use Rattle.kernel_abstract.specs.declared.invocation.Invocation.{Invocation}
use Rattle.kernel_abstract.specs.declared.invocation.Invocation.TheVariants.{Send, Receive, Retype, Derive, Move, Delete, Revoke, CancelBadged, SetSpace, Suspend, Resume}
use Rattle.kernel_abstract.specs.CNodes.{with_derived, with_moved}
use Rattle.kernel_abstract.specs.Decode.{decoded_call}
use Rattle.kernel_abstract.specs.Retyping.{new_caps, with_objects}
use Rattle.kernel_abstract.specs.State.{State, shown}
use Rattle.kernel_abstract.specs.Step.{outcome, performed, step, state_after}
use Rattle.kernel_abstract.specs.Threads.{with_space}
use Rattle.kernel_abstract.specs.Private.Invocations.{IsPlacement, IsRetype, IsSpace}
use Rattle.kernel_abstract.specs.Private.Stores.{IsKernelStore}
use Rattle.kernel_abstract.specs.Reached.{IsReached}
use Rattle.kernel_abstract.proofs.Capabilities.RegionsDerived.{named_some}
use Rattle.kernel_abstract.proofs.Capabilities.RegionsKept.{region_is}
use Rattle.kernel_abstract.proofs.Capabilities.SpacesSet.{space_kept}
use Rattle.kernel_abstract.proofs.Checks.PassedInvocations.{IsEdit, call_passed}
use Rattle.kernel_abstract.proofs.Reached.Runs.{reached_after}
use Rattle.kernel_abstract.proofs.Reached.Simulation.{reached_is}
use Rattle.kernel_abstract.proofs.Reached.Stores.{checked_edit}
use Rattle.kernel_abstract.proofs.Retype.PutInOrder.{each-with_new}
use Rattle.kernel_abstract.proofs.Retype.RetypedForest.{each-range, each_cap, lies, new_base, new_end, new_lawful}
use Rattle.query_parts.specs.Parts.{Parts, IsClosed}
use Rattle.query_parts.specs.Laws.{AreClosed, IsAllowed}
use Rattle.query_parts.specs.Regions.{IsFromPart, AreFromPart, RegionsStayWithin}
use Rattle.query_parts.proofs.Changes.{held_by}
use Rattle.query_parts.proofs.Messages.{call_passes}
use Rattle.query_parts.proofs.Passed.{StaysIn, op_stays}
use Rattle.query_parts.proofs.Passing.{performed_same, outcome_same}
use Rattle.query_parts.proofs.Runs.{some_is, leaves_others, step_allowed}

-- ---- capabilities

null_freed : (free : ℕ) (cap : Cap) → is_null cap ≡ is_null (with_free free cap)
null_freed free Null = refl
null_freed free (Untyped base bits former) = refl
null_freed free (Endpoint base badge rights) = refl
null_freed free (CNode base radix guard) = refl
null_freed free (Tcb base) = refl

-- nothing lies in the region of no object
region_some : (p : ProfileName) (a b : Cap) → in_region p a b ≡ true → is_null a ≡ false
region_some p Null b h = absurd (false≢true h)
region_some p (Untyped base bits free) b h = refl
region_some p (Endpoint base badge rights) b h = refl
region_some p (CNode base radix guard) b h = refl
region_some p (Tcb base) b h = refl

both_most : (i j m n : ℕ) → i ≤ j → m ≤ n → (nat_le i j && nat_le m n) ≡ true
both_most i j m n h k = grind (arith, nat_tests)

-- ---- edits of the forest

module _ (p : ProfileName) (parts : Parts) (i memory : ℕ) (f : Forest Entry) (store : IsKernelStore p memory f) where
  -- where an entry is in a slot of the part, its object is from the part
  abbrev IsOld : Entry → Type 0
  IsOld e = parts.part_of e.slot ≡ Some i → IsFromPart p parts i f e.cap

  abbrev AreOld : Forest Entry → Type 0
  AreOld g = Each IsOld (preorder g)

  from_same : (source : ℕ) (cap : Cap) → parts.part_of source ≡ Some i → names_same (cap_at f source) cap ≡ true → IsFromPart p parts i f cap
  from_same source cap own same =
      let some = (named_some (cap_at f source) cap same).0 in
      (source, (own, sym ((names_one p (cap_at f source) cap same).of (cap_at f source)) ∙ region-self p (cap_at f source) some))

  old : AreOld f
  old = each-weaker (Contains (preorder f)) IsOld one (preorder f) (each-contains (preorder f))
    where
      one : (e : Entry) → Contains (preorder f) e → IsOld e
      one e m own =
          let full = (each-contained (λ (x : Entry). IsLawful p memory x.cap) (preorder f) e (each_cap (IsLawful p memory) f store.lawful) m).full in
          (e.slot, (own, ap (λ c. in_region p c e.cap) (cap-entry f e store.slots_distinct m) ∙ region-self p e.cap full))

  old-clear : (slot : ℕ) (g : Forest Entry) → AreOld g → AreOld (clear p slot g)
  old-clear slot g h = each-without IsOld (λ (e : Entry). cleared p (preorder g) slot e.slot) g h

  old-freed : (slot free : ℕ) (g : Forest Entry) → AreOld g → AreOld (freed slot free g)
  old-freed slot free g h = each-freed IsOld slot free g h again
    where
      again : (e : Entry) → Contains (preorder g) e → e.slot ≡ slot → IsOld (entry slot (with_free free e.cap) e.original)
      again e m at own =
          let had = each-contained IsOld (preorder g) e h m (ap parts.part_of at ∙ own) in
          let one = one_alike p e.cap (with_free free e.cap) (null_freed free e.cap) (alike_freed p free e.cap) in
          (had.0, (had.1.0, sym (one.of (cap_at f had.0)) ∙ had.1.1))

  old-with_derived : (placement : CapPlacement) → IsPlacement p f placement → parts.part_of placement.source ≡ Some i → AreOld (with_derived p placement f)
  old-with_derived placement is own =
      elim (is_untyped placement.cap) as (λ b. AreOld (cond b (freed placement.source (2 ^ bits_of p placement.cap) put) put)) [
        | true ↦ old-freed placement.source (2 ^ bits_of p placement.cap) put put_old
        | false ↦ put_old
      ]
    where
      put : Forest Entry
      put = derived placement.source placement.slot placement.cap f

      put_old : AreOld put
      put_old = each-derived IsOld placement.source placement.slot placement.cap f old (λ here. from_same placement.source placement.cap own is.same)

  old-with_moved : (placement : CapPlacement) → IsPlacement p f placement → parts.part_of placement.source ≡ Some i → AreOld (with_moved placement f)
  old-with_moved placement is own =
      each-moved IsOld placement.source placement.slot placement.cap f old (λ original here. from_same placement.source placement.cap own is.same)

  old-with_space : (new : NewSpace) → IsSpace p f new → parts.part_of new.source ≡ Some i → AreOld (with_space p new f)
  old-with_space new is own =
      let left = old-clear new.tcb f old in
      space_kept p f store.slots_distinct new is AreOld left
      (λ d. each-derived IsOld new.source new.tcb new.cap (clear p new.tcb f) left (λ here. from_same new.source new.cap own is.same))

  module _ (new : NewObjects) (is : IsRetype p f new) (own : parts.part_of new.untyped ≡ Some i) where
    made : ℕ → Cap
    made k = new_cap new.shape.kind (object_at new.placed k) new.shape.size_bits

    from_region : (k : ℕ) → k < new.count → IsFromPart p parts i f (made k)
    unfolding made
    from_region k low =
        let full = (new_lawful p f new is memory store.lawful k low).full in
        let e = new_end p f new is k in
        let b = new_base new.shape.kind (object_at new.placed k) new.shape.size_bits in
        let lie = lies p f new is in
        let n = lie.unused k in
        let u = lie.used k low in
        let w = lie.within in
        let within : contains p (cap_at f new.untyped) (made k) ≡ true =
        both_most (base_of (cap_at f new.untyped)) (base_of (made k)) (end_of p (made k)) (end_of p (cap_at f new.untyped)) (omega arith) (omega arith) in
        (new.untyped, (own, region_is p (cap_at f new.untyped) (made k) ∙ rw (is.untyped, full, within) refl))

    old-with_objects : AreOld (with_objects p new f)
    unfolding made
    old-with_objects =
        each-with_new IsOld new.untyped (new_caps p new) (freed new.untyped new.placed.free f) (old-freed new.untyped new.placed.free f old)
        (each-range (λ (put : ℕ × Cap). IsOld (entry put.0 put.1 true)) (λ k. (slot_of p new.first_slot k, made k)) 0 new.count
        (λ k low high here. from_region k (omega (arith, high))))

  -- ---- what the slots hold

  held_from : (g : Forest Entry) → AreOld g → AreFromPart p parts i f g
  held_from g h slot own some = by (held_by IsOld slot (preorder g) h)
    where
      by : (cap_at g slot ≡ Null) ⊎ ((e : Entry) × ((e.slot ≡ slot) × ((e.cap ≡ cap_at g slot) × IsOld e))) → IsFromPart p parts i f (cap_at g slot)
      by (inl null) = absurd (let n : true ≡ false = ap is_null (sym null) ∙ some in cc)
      by (inr (e, (at, (is, from)))) = subst (IsFromPart p parts i f) is (from (ap parts.part_of at ∙ own))

-- ---- calls

module _ (p : ProfileName) (parts : Parts) (i : ℕ) where
  -- a slot that holds what it held
  from_itself : (f g : Forest Entry) (slot : ℕ) → parts.part_of slot ≡ Some i → is_null (cap_at g slot) ≡ false → cap_at g slot ≡ cap_at f slot →
      IsFromPart p parts i f (cap_at g slot)
  from_itself f g slot own some same =
      (slot, (own, ap (λ c. in_region p c (cap_at g slot)) (sym same) ∙ region-self p (cap_at g slot) some))

  module _ (memory : ℕ) (A : State) (store : IsKernelStore p memory A.derivations) (thread : ℕ) where
    first_old : AreOld p parts i memory A.derivations store A.derivations
    first_old = old p parts i memory A.derivations store

    performed_old : (done : Invocation) → IsEdit p A.derivations done → StaysIn p parts i done →
        AreOld p parts i memory A.derivations store (performed p A thread done).state.derivations
    performed_old (Send service message block) edit stays =
        subst (AreOld p parts i memory A.derivations store) (sym (performed_same p A thread (Send service message block) tt)) first_old
    performed_old (Receive service block) edit stays =
        subst (AreOld p parts i memory A.derivations store) (sym (performed_same p A thread (Receive service block) tt)) first_old
    performed_old (Retype new) edit stays = old-with_objects p parts i memory A.derivations store new edit stays.untyped
    performed_old (Derive placement) edit stays = old-with_derived p parts i memory A.derivations store placement edit.ends stays.source
    performed_old (Move placement) edit stays = old-with_moved p parts i memory A.derivations store placement edit.ends stays.source
    performed_old (Delete slot) edit stays = old-clear p parts i memory A.derivations store slot A.derivations first_old
    performed_old (Revoke slot) edit stays =
        kept-revoke p (AreOld p parts i memory A.derivations store) (λ c g h. old-clear p parts i memory A.derivations store c g h) slot A.derivations first_old
    performed_old (CancelBadged service) edit stays = first_old
    performed_old (SetSpace new) edit stays = old-with_space p parts i memory A.derivations store new edit stays.source
    performed_old (Suspend tcb) edit stays = first_old
    performed_old (Resume tcb) edit stays = first_old

  outcome_old : (memory : ℕ) (A : State) (call : Call) (r : Result Invocation Refusal) (store : IsKernelStore p memory A.derivations) →
      IsClosed p parts i A.derivations → parts.part_of call.thread ≡ Some i → decoded_call p (shown A) call ≡ r →
      AreOld p parts i memory A.derivations store (outcome p A call.thread r).state.derivations
  unfolding shown
  outcome_old memory A call (Err refusal) store closed own h = first_old memory A store call.thread
  outcome_old memory A call (Ok done) store closed own h =
      performed_old memory A store call.thread done (checked_edit p memory A call done store h)
      (op_stays p parts i A.derivations closed call.thread own call.op done (call_passed p (shown A) call done h))

  step_from : (A : State) (call : Call) → IsReached p A → AreClosed p parts A → IsAllowed parts call →
      AreFromPart p parts i A.derivations (step p A call).state.derivations
  unfolding step shown
  step_from A call reached closed (inr (outside, passes)) slot here some =
      from_itself A.derivations (step p A call).state.derivations slot here some
      (ap (λ (f : Forest Entry). cap_at f slot)
      (outcome_same p A call.thread (decoded_call p (shown A) call) (call_passes p (shown A) call passes)))
  step_from A call reached closed (inl (k, own)) slot here some =
      (elim (k == i) as (λ b. (k == i) ≡ b → IsFromPart p parts i A.derivations (cap_at (step p A call).state.derivations slot)) [
        | true ↦ λ is.
            let store = (reached_is p A reached).store in
            held_from p parts i reached.plan.memory_bits A.derivations store (step p A call).state.derivations
            (outcome_old reached.plan.memory_bits A call (decoded_call p (shown A) call) store (closed i) (own ∙ ap Some (eqb-true k i is)) refl)
            slot here some
        | false ↦ λ is.
            by (leaves_others p parts k A call reached (closed k) own slot
            (λ there. false≢true (sym is ∙ eq-eqb k i (some_is k i (sym there ∙ here)))))
      ]) refl
    where
      by : (cap_at (step p A call).state.derivations slot ≡ cap_at A.derivations slot) ⊎ (cap_at (step p A call).state.derivations slot ≡ Null) →
          IsFromPart p parts i A.derivations (cap_at (step p A call).state.derivations slot)
      by (inl same) = from_itself A.derivations (step p A call).state.derivations slot here some same
      by (inr none) = absurd (let n : true ≡ false = ap is_null (sym none) ∙ some in cc)

  pub regions_stay : (A : State) (calls : List Call) → RegionsStayWithin p parts i A calls
  unfolding state_after
  regions_stay A [] reached closed of slot here some = from_itself A.derivations A.derivations slot here some refl
  regions_stay A (call ∷ calls) reached closed of slot here some =
      let B : State = (step p A call).state in
      let rest = regions_stay B calls (reached_after p A (call ∷ []) reached) (step_allowed p parts A call reached closed of.0) of.1 slot here some in
      let held = cap_at B.derivations rest.0 in
      let now = cap_at (state_after p B calls).derivations slot in
      let first = step_from A call reached closed of.0 rest.0 rest.1.0 (region_some p held now rest.1.1) in
      (first.0, (first.1.0, region-transitive p (cap_at A.derivations first.0) held now first.1.1 rest.1.1))
