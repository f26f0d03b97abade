-- What is shown stays in its memory, whatever an invocation does.
use Rattle.std.proofs.Common.{◌≡◌, ℕ, ◌^◌, ◌≤◌, ◌⊎◌, inl, inr, Bool, true, false, cond, ◌==◌, List, Option, Some, None, All, eqb, refl, sym, ap, subst, ◌∙◌, arith}
use Rattle.std.specs.List.{Contains, IsDistinct}
use Rattle.std.proofs.lemmas.Bool.{false≢true, and_parts, eqb-true}
use Rattle.cap_core.specs.declared.profile.ProfileName.{ProfileName}
use Rattle.cap_core.specs.declared.message.Message.{Message}
use Rattle.cap_core.specs.declared.capability.Cap.{Cap}
use Rattle.cap_core.specs.declared.capability.Cap.TheVariants.{Null, Untyped, Endpoint, CNode, Tcb}
use Rattle.cap_core.specs.Objects.{is_untyped, bits_of, IsLawful}
use Rattle.kernel_forest.specs.Forest.{Forest, preorder}
use Rattle.kernel_forest.specs.Entries.{Entry, caps, slots, cap_at}
use Rattle.kernel_forest.specs.Derivation.{derived, derived_entry, freed, names_same}
use Rattle.kernel_forest.proofs.Trees.Forests.{each-contained}
use Rattle.kernel_forest.proofs.Slots.Edits.{each-derived, contains-derived}
use Rattle.kernel_forest.proofs.Slots.Moved.{each-moved}
use Rattle.kernel_forest.proofs.Slots.Freed.{each-freed}
use Rattle.kernel_forest.proofs.Slots.Holding.{cap-entry}
use Rattle.ipc_core.specs.declared.waiter.Waiter.{Waiter}
use Rattle.ipc_core.specs.declared.waiter.Offer.{Offer}
use Rattle.ipc_core.specs.Waits.{first_receiver, first_sender}
use Rattle.kernel_delete.specs.Clear.{clear}
use Rattle.kernel_delete.proofs.Kept.{kept-revoke}
use Rattle.cap_core.specs.declared.capability.Badge.{Badge}
use Rattle.ipc_core.specs.Cancelled.{is_sender_with}
use Rattle.kernel_abstract.specs.Private.Endings.{after_release}
use Rattle.kernel_abstract.proofs.Capabilities.StoresCleared.{slots-clear, caps-clear}
use Rattle.kernel_abstract.proofs.Capabilities.SpacesSet.{space_placement, space_kept}
use Rattle.kernel_abstract.specs.declared.invocation.Service.{Service}
use Rattle.kernel_abstract.specs.declared.invocation.CapPlacement.{CapPlacement}
use Rattle.kernel_abstract.specs.declared.invocation.NewSpace.{NewSpace}
use Rattle.kernel_abstract.specs.declared.invocation.Invocation.{Invocation}
use Rattle.kernel_abstract.specs.declared.invocation.Invocation.TheVariants.{Send, Receive, Retype, Derive, Move, Delete, Revoke, CancelBadged, SetSpace, Suspend, Resume}
use Rattle.kernel_abstract.specs.Shown.{Shown, waiting_at}
use Rattle.kernel_abstract.specs.Memory.{IsSlotAddress, IsInMemory}
use Rattle.kernel_abstract.specs.Regions.{IsForest}
use Rattle.kernel_abstract.specs.CNodes.{with_derived, with_moved}
use Rattle.kernel_abstract.specs.Threads.{with_space}
use Rattle.kernel_abstract.specs.Private.Effects.{send_to_first, receive_from_first, performed_effect}
use Rattle.kernel_abstract.specs.Private.Invocations.{IsPlacement, IsSpace, IsInvocation}
use Rattle.kernel_abstract.proofs.Retype.RetypedForest.{each_cap, all_caps, each_slot, all_slots, lawful_free, made_lawful, made_placed}

-- where the derivation forest lies in the memory
LiesIn : ProfileName → ℕ → Forest Entry → Type 0
LiesIn p memory f = All (IsSlotAddress p memory) (slots f) × All (IsLawful p memory) (caps f)

-- one untyped region has the same bits by whatever capability
same_bits : (p : ProfileName) (a b : Cap) → names_same a b ≡ true → is_untyped b ≡ true → bits_of p b ≡ bits_of p a
same_bits p (Untyped base bits free) (Untyped base' bits' free') h u = sym (eqb-true bits bits' (and_parts (base == base') _ h).1)
same_bits p Null (Untyped base' bits' free') h u = absurd (false≢true h)
same_bits p (Endpoint base badge rights) (Untyped base' bits' free') h u = absurd (false≢true h)
same_bits p (CNode base radix guard) (Untyped base' bits' free') h u = absurd (false≢true h)
same_bits p (Tcb base) (Untyped base' bits' free') h u = absurd (false≢true h)
same_bits p a Null h u = absurd (false≢true u)
same_bits p a (Endpoint base badge rights) h u = absurd (false≢true u)
same_bits p a (CNode base radix guard) h u = absurd (false≢true u)
same_bits p a (Tcb base) h u = absurd (false≢true u)

module _ (p : ProfileName) (memory : ℕ) (f : Forest Entry) (all : LiesIn p memory f) where
  derived_lies : (placement : CapPlacement) → IsPlacement p f placement → LiesIn p memory (derived placement.source placement.slot placement.cap f)
  unfolding LiesIn
  derived_lies placement is = (
    all_slots (IsSlotAddress p memory) _ (each-derived (λ (e : Entry). IsSlotAddress p memory e.slot) placement.source placement.slot placement.cap f (each_slot (IsSlotAddress p memory) f all.0) (is.placed memory all.1)),
    all_caps (IsLawful p memory) _ (each-derived (λ (e : Entry). IsLawful p memory e.cap) placement.source placement.slot placement.cap f (each_cap (IsLawful p memory) f all.1) (is.lawful memory all.1)),
  )

  used_up_lies : (placement : CapPlacement) → IsPlacement p f placement → IsDistinct eqb (slots f) → is_untyped placement.cap ≡ true →
      LiesIn p memory (freed placement.source (2 ^ bits_of p placement.cap) (derived placement.source placement.slot placement.cap f))
  unfolding LiesIn
  used_up_lies placement is distinct untyped =
      let put : Forest Entry = derived placement.source placement.slot placement.cap f in
      let lies = derived_lies placement is in (
        all_slots (IsSlotAddress p memory) _
            (each-freed (λ (e : Entry). IsSlotAddress p memory e.slot) placement.source (2 ^ bits_of p placement.cap) put (each_slot (IsSlotAddress p memory) put lies.0)
            (λ e m s. subst (IsSlotAddress p memory) s (each-contained (λ (e : Entry). IsSlotAddress p memory e.slot) (preorder put) e (each_slot (IsSlotAddress p memory) put lies.0) m))),
        all_caps (IsLawful p memory) _
            (each-freed (λ (e : Entry). IsLawful p memory e.cap) placement.source (2 ^ bits_of p placement.cap) put (each_cap (IsLawful p memory) put lies.1)
            (λ e m s. lawful_free p memory (2 ^ bits_of p placement.cap) e.cap (room e s (contains-derived placement.source placement.slot placement.cap f e m))
            (each-contained (λ (e : Entry). IsLawful p memory e.cap) (preorder put) e (each_cap (IsLawful p memory) put lies.1) m))),
      )
    where
      room : (e : Entry) → e.slot ≡ placement.source → Contains (preorder f) e ⊎ (derived_entry placement.source placement.slot placement.cap f ≡ e) → 2 ^ bits_of p placement.cap ≤ 2 ^ bits_of p e.cap
      room e s (inl m) =
          let held : cap_at f placement.source ≡ e.cap = ap (cap_at f) (sym s) ∙ cap-entry f e distinct m in
          let bits : bits_of p placement.cap ≡ bits_of p e.cap = same_bits p (cap_at f placement.source) placement.cap is.same untyped ∙ ap (bits_of p) held in
          subst (λ n. 2 ^ bits_of p placement.cap ≤ 2 ^ n) bits (omega arith)
      room e s (inr new) = subst (λ (x : Entry). 2 ^ bits_of p placement.cap ≤ 2 ^ bits_of p x.cap) new (omega arith)

  with_derived_lies : (placement : CapPlacement) → IsPlacement p f placement → IsDistinct eqb (slots f) → LiesIn p memory (with_derived p placement f)
  with_derived_lies placement is distinct =
      (elim (is_untyped placement.cap) as (λ b. is_untyped placement.cap ≡ b →
      LiesIn p memory (cond b (freed placement.source (2 ^ bits_of p placement.cap) (derived placement.source placement.slot placement.cap f)) (derived placement.source placement.slot placement.cap f))) [
        | true ↦ λ u. used_up_lies placement is distinct u
        | false ↦ λ u. derived_lies placement is
      ]) refl

  with_moved_lies : (placement : CapPlacement) → IsPlacement p f placement → LiesIn p memory (with_moved placement f)
  unfolding LiesIn
  with_moved_lies placement is = (
    all_slots (IsSlotAddress p memory) _ (each-moved (λ (e : Entry). IsSlotAddress p memory e.slot) placement.source placement.slot placement.cap f (each_slot (IsSlotAddress p memory) f all.0) (λ original. is.placed memory all.1)),
    all_caps (IsLawful p memory) _ (each-moved (λ (e : Entry). IsLawful p memory e.cap) placement.source placement.slot placement.cap f (each_cap (IsLawful p memory) f all.1) (λ original. is.lawful memory all.1)),
  )

clear_lies : (p : ProfileName) (memory s : ℕ) (f : Forest Entry) → LiesIn p memory f → LiesIn p memory (clear p s f)
unfolding LiesIn
clear_lies p memory s f h = (slots-clear p memory s f h.0, caps-clear p memory s f h.1)

space_lies : (p : ProfileName) (memory : ℕ) (f : Forest Entry) → IsDistinct eqb (slots f) → (new : NewSpace) →
    IsSpace p f new → LiesIn p memory f → LiesIn p memory (with_space p new f)
space_lies p memory f distinct new is h =
    let cleared = clear_lies p memory new.tcb f h in
    space_kept p f distinct new is (LiesIn p memory) cleared
    (λ d. derived_lies p memory (clear p new.tcb f) cleared (space_placement new) d.ends)

lies_in : (p : ProfileName) (memory : ℕ) (v : Shown) → IsInMemory p memory v → LiesIn p memory v.derivations
unfolding LiesIn
lies_in p memory v h = (h.slots_placed, h.lawful)

in_memory : (p : ProfileName) (memory : ℕ) (v : Shown) → LiesIn p memory v.derivations → IsInMemory p memory v
unfolding LiesIn
in_memory p memory v h = record { slots_placed = h.0; lawful = h.1 }

-- a send and a receive leave the capabilities as they are
send_keeps : (v : Shown) (t : ℕ) (service : Service) (message : Message) (list : List Waiter) (block : Bool) (o : Option ℕ) →
    (send_to_first v t service message list block o).after.derivations ≡ v.derivations
send_keeps v t service message list true None = refl
send_keeps v t service message list false None = refl
send_keeps v t service message list block (Some to) = refl

receive_keeps : (v : Shown) (t : ℕ) (service : Service) (list : List Waiter) (block : Bool) (o : Option Offer) →
    (receive_from_first v t service list block o).after.derivations ≡ v.derivations
receive_keeps v t service list true None = refl
receive_keeps v t service list false None = refl
receive_keeps v t service list block (Some offer) = refl

badge_keeps : (v : Shown) (e : ℕ) (badge : Badge) (none : Bool) →
    (cond none v (after_release v e (is_sender_with badge))).derivations ≡ v.derivations
badge_keeps v e badge true = refl
badge_keeps v e badge false = refl

effect_lies : (p : ProfileName) (memory : ℕ) (v : Shown) (t : ℕ) (invocation : Invocation) → IsForest p v.derivations → IsInvocation p v invocation → LiesIn p memory v.derivations →
    LiesIn p memory (performed_effect p v t invocation).after.derivations
unfolding LiesIn
effect_lies p memory v t (Send service message block) forest is h =
    subst (LiesIn p memory) (sym (send_keeps v t service message (waiting_at v service.endpoint) block (first_receiver (waiting_at v service.endpoint)))) h
effect_lies p memory v t (Receive service block) forest is h =
    subst (LiesIn p memory) (sym (receive_keeps v t service (waiting_at v service.endpoint) block (first_sender (waiting_at v service.endpoint)))) h
effect_lies p memory v t (Retype new) forest is h = (
  made_placed p v.derivations new is memory forest.regions forest.disjoint forest.distinct h.1 h.0,
  made_lawful p v.derivations new is memory forest.regions forest.disjoint forest.distinct h.1,
)
effect_lies p memory v t (Derive placement) forest is h = with_derived_lies p memory v.derivations h placement is.ends forest.distinct
effect_lies p memory v t (Move placement) forest is h = with_moved_lies p memory v.derivations h placement is.ends
effect_lies p memory v t (Delete slot) forest is h = clear_lies p memory slot v.derivations h
effect_lies p memory v t (Revoke slot) forest is h =
    kept-revoke p (LiesIn p memory) (λ c g lies. clear_lies p memory c g lies) slot v.derivations h
effect_lies p memory v t (CancelBadged service) forest is h =
    subst (LiesIn p memory) (sym (badge_keeps v service.endpoint service.badge (service.badge.0 == 0))) h
effect_lies p memory v t (SetSpace new) forest is h = space_lies p memory v.derivations forest.distinct new is h
effect_lies p memory v t (Suspend tcb) forest is h = h
effect_lies p memory v t (Resume tcb) forest is h = h

-- what an invocation does stays in the memory
pub invocation_within : (p : ProfileName) (v w : Shown) (t : ℕ) (invocation : Invocation) → IsForest p v.derivations → IsInvocation p v invocation → w ≡ (performed_effect p v t invocation).after →
    (memory : ℕ) → IsInMemory p memory v → IsInMemory p memory w
invocation_within p v w t invocation forest is after memory h =
    subst (IsInMemory p memory) (sym after) (in_memory p memory _ (effect_lies p memory v t invocation forest is (lies_in p memory v h)))
