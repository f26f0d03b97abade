-- A step on what is shown is the step of the state.
use Rattle.std.proofs.Common.{◌≡◌, ℕ, true, false, ◌==◌, List, [], ◌∷◌, Option, Result, Ok, Err, refl, sym, ap, subst, ◌∙◌}
use Rattle.std.specs.List.{list_any, filter_map}
use Rattle.kernel_abstract.specs.declared.call.Call.{Call}
use Rattle.kernel_abstract.specs.declared.invocation.Invocation.{Invocation}
use Rattle.kernel_abstract.specs.declared.invocation.Invocation.TheVariants.{Send, Receive, Retype, Derive, Move, Delete, Revoke, CancelBadged, SetSpace, Suspend, Resume}
use Rattle.kernel_abstract.specs.declared.call.Reply.{Reply}
use Rattle.cap_core.specs.declared.profile.ProfileName.{ProfileName}
use Rattle.kernel_abstract.specs.Private.Effects.{done, effect_of, decoded_effect, performed_effect}
use Rattle.kernel_abstract.specs.Reached.{IsReached, StepsTo}
use Rattle.cap_core.specs.declared.refusal.Refusal.{Refusal}
use Rattle.kernel_abstract.specs.Shown.{Shown, tcb_base, endpoint_base, endpoints_of, threads_of}
use Rattle.kernel_abstract.specs.State.{State, endpoint_at, thread_at, shown}
use Rattle.kernel_abstract.specs.Step.{objects_ended, outcome, performed, state_after, step}
use Rattle.kernel_abstract.specs.Boot.{boot}
use Rattle.kernel_abstract.specs.Decode.{decoded_call}
use Rattle.cap_core.specs.declared.capability.Cap.{Cap}
use Rattle.kernel_forest.specs.Forest.{Forest}
use Rattle.kernel_forest.specs.Entries.{Entry, caps}
use Rattle.kernel_delete.specs.Clear.{clear}
use Rattle.kernel_delete.specs.Housed.{IsHoused}
use Rattle.kernel_delete.specs.Revoke.{revoke}
use Rattle.kernel_abstract.specs.Cancelling.{ending, cancelling_badged, suspending, resuming}
use Rattle.kernel_abstract.specs.Private.Endings.{after_ending}
use Rattle.kernel_abstract.proofs.Capabilities.StoresCleared.{live-clear, live-revoke}
use Rattle.kernel_abstract.proofs.Capabilities.SpacesSet.{live-space}
use Rattle.kernel_abstract.proofs.Cancelling.InvariantKept.{inv_ending, inv_badged, inv_stopping}
use Rattle.kernel_abstract.proofs.Cancelling.Stopped.{stopping_shown}
use Rattle.kernel_abstract.proofs.Cancelling.Badged.{cancelling_badged_shown}
use Rattle.kernel_abstract.proofs.Cancelling.Ended.{ending_shown}
use Rattle.kernel_abstract.specs.declared.invocation.NewObjects.{NewObjects}
use Rattle.kernel_abstract.specs.declared.invocation.CapPlacement.{CapPlacement}
use Rattle.kernel_abstract.specs.declared.invocation.NewSpace.{NewSpace}
use Rattle.kernel_abstract.specs.Retyping.{new_bases}
use Rattle.kernel_abstract.specs.CNodes.{with_derived, with_moved}
use Rattle.kernel_abstract.specs.Threads.{with_space}
use Rattle.kernel_abstract.specs.Private.Invocations.{IsRetype, IsDerivation, IsMove, IsSpace}
use Rattle.kernel_abstract.specs.Private.Stores.{IsKernelStore}
use Rattle.kernel_abstract.proofs.Capabilities.LiveAfter.{IsBase, tcb_is_base, endpoint_is_base, live-derived, live-moved}
use Rattle.kernel_abstract.proofs.Retype.LiveRetyped.{untyped_full}
use Rattle.kernel_abstract.proofs.Checks.PassedInvocations.{IsEdit}
use Rattle.kernel_abstract.proofs.Boot.BootedStore.{store_at_boot}
use Rattle.kernel_abstract.proofs.Housed.Boot.{housed_at_boot}
use Rattle.kernel_abstract.proofs.Reached.Stores.{checked_edit, outcome_store, outcome_housed}
use Rattle.kernel_abstract.proofs.Reached.Invariant.{Invariant, Passes, passes, IsShown, inv_boot, inv_refused}
use Rattle.kernel_abstract.proofs.Capabilities.Rearranged.{rearranged_steps, inv_rearranged}
use Rattle.kernel_abstract.proofs.Retype.ObjectsMade.{made_steps, inv_made}
use Rattle.kernel_abstract.proofs.Retype.NewlyLive.{endpoints_were_not, threads_were_not}
use Rattle.kernel_abstract.proofs.Messages.RecordsAdded.{sends_step, receives_step, inv_sends, inv_receives}

-- what holds of each reached state, whose slots stand in a memory of 2^memory bytes
pub record Reached (p : ProfileName) (memory : ℕ) (A : State) : Type 0 where
  pub store : IsKernelStore p memory A.derivations
  pub housed : IsHoused p A.derivations
  pub records : Invariant A

module _ (p : ProfileName) (memory : ℕ) (A : State) (t : ℕ) (reached : Reached p memory A) where
  -- the same objects are live
  pub derived_same : (placement : CapPlacement) → IsDerivation p A.derivations placement → (base_of : Cap → Option ℕ) → IsBase base_of → (q : ℕ)
      → list_any (λ k. q == k) (filter_map base_of (caps (with_derived p placement A.derivations))) ≡ list_any (λ k. q == k) (filter_map base_of (caps A.derivations))
  derived_same placement is base_of base q = live-derived base_of base p placement A.derivations is.ends.full is.ends.same q

  pub moved_same : (placement : CapPlacement) → IsMove p A.derivations placement → (base_of : Cap → Option ℕ) → IsBase base_of → (q : ℕ)
      → list_any (λ k. q == k) (filter_map base_of (caps (with_moved placement A.derivations))) ≡ list_any (λ k. q == k) (filter_map base_of (caps A.derivations))
  moved_same placement is base_of base q = live-moved base_of base placement A.derivations reached.store.slots_distinct is.ends.same q

  -- none of the new objects was live
  no_endpoint : (new : NewObjects) → IsRetype p A.derivations new → (b : ℕ) → list_any (λ k. b == k) (new_bases endpoint_base p new) ≡ true → list_any (λ k. b == k) (endpoints_of A.derivations) ≡ false
  no_endpoint new is = endpoints_were_not p A.derivations new is memory reached.store.regions reached.store.disjoint reached.store.slots_distinct reached.store.lawful

  no_thread : (new : NewObjects) → IsRetype p A.derivations new → (b : ℕ) → list_any (λ k. b == k) (new_bases tcb_base p new) ≡ true → list_any (λ k. b == k) (threads_of A.derivations) ≡ false
  no_thread new is = threads_were_not p A.derivations new is memory reached.store.regions reached.store.disjoint reached.store.slots_distinct reached.store.lawful

  -- the objects that are live after a thread's space was set were live
  pub space_endpoints : (new : NewSpace) → IsSpace p A.derivations new → (q : ℕ) →
      list_any (λ k. q == k) (endpoints_of (with_space p new A.derivations)) ≡ true →
      list_any (λ k. q == k) (endpoints_of A.derivations) ≡ true
  space_endpoints new is = live-space p A.derivations reached.store.slots_distinct new is endpoint_base endpoint_is_base

  space_threads : (new : NewSpace) → IsSpace p A.derivations new → (q : ℕ) →
      list_any (λ k. q == k) (threads_of (with_space p new A.derivations)) ≡ true →
      list_any (λ k. q == k) (threads_of A.derivations) ≡ true
  space_threads new is = live-space p A.derivations reached.store.slots_distinct new is tcb_base tcb_is_base

  -- objects end, where those that are live after were live
  ends_steps : (g : Forest Entry) →
      ((q : ℕ) → list_any (λ k. q == k) (endpoints_of g) ≡ true →
      list_any (λ k. q == k) (endpoints_of A.derivations) ≡ true) →
      ((q : ℕ) → list_any (λ k. q == k) (threads_of g) ≡ true →
      list_any (λ k. q == k) (threads_of A.derivations) ≡ true) →
      IsShown (done (after_ending (shown A) g)) (objects_ended A g)
  unfolding shown
  ends_steps g endpoints threads = (refl, sym (ending_shown A g reached.records endpoints threads))

  inv_ends : (g : Forest Entry) →
      ((q : ℕ) → list_any (λ k. q == k) (endpoints_of g) ≡ true →
      list_any (λ k. q == k) (endpoints_of A.derivations) ≡ true) → Invariant (objects_ended A g).state
  inv_ends g endpoints = inv_refused (ending A g) (inv_ending A g reached.records endpoints)

  performed_steps : (invocation : Invocation) → Passes A t invocation → IsEdit p A.derivations invocation → IsShown (performed_effect p (shown A) t invocation) (performed p A t invocation)
  unfolding shown
  performed_steps (Send service message block) pass edit = sends_step p A t service message block reached.records pass
  performed_steps (Receive service block) pass edit = receives_step p A t service block reached.records pass
  performed_steps (Retype new) pass edit = made_steps p A new reached.records (untyped_full new.untyped A.derivations edit.untyped) (no_endpoint new edit) (no_thread new edit)
  performed_steps (Derive placement) pass edit =
      rearranged_steps A (with_derived p placement A.derivations) reached.records (derived_same placement edit tcb_base tcb_is_base) (derived_same placement edit endpoint_base endpoint_is_base)
  performed_steps (Move placement) pass edit =
      rearranged_steps A (with_moved placement A.derivations) reached.records (moved_same placement edit tcb_base tcb_is_base) (moved_same placement edit endpoint_base endpoint_is_base)
  performed_steps (Delete slot) pass edit =
      ends_steps (clear p slot A.derivations) (λ q. live-clear endpoint_base q p slot A.derivations)
      (λ q. live-clear tcb_base q p slot A.derivations)
  performed_steps (Revoke slot) pass edit =
      ends_steps (revoke p slot A.derivations) (λ q. live-revoke endpoint_base q p slot A.derivations)
      (λ q. live-revoke tcb_base q p slot A.derivations)
  performed_steps (CancelBadged service) pass edit =
      (refl, sym (cancelling_badged_shown A service.endpoint service.badge reached.records pass.endpoint_live))
  performed_steps (SetSpace new) pass edit =
      ends_steps (with_space p new A.derivations) (space_endpoints new edit) (space_threads new edit)
  performed_steps (Suspend tcb) pass edit = (refl, sym (stopping_shown A tcb true reached.records edit))
  performed_steps (Resume tcb) pass edit = (refl, sym (stopping_shown A tcb false reached.records edit))

  inv_performed : (invocation : Invocation) → Passes A t invocation → IsEdit p A.derivations invocation → Invariant (performed p A t invocation).state
  inv_performed (Send service message block) pass edit = inv_sends p A t service message block reached.records pass
  inv_performed (Receive service block) pass edit = inv_receives p A t service block reached.records pass
  inv_performed (Retype new) pass edit = inv_made p A new reached.records (untyped_full new.untyped A.derivations edit.untyped) (no_endpoint new edit) (no_thread new edit)
  inv_performed (Derive placement) pass edit =
      inv_rearranged A (with_derived p placement A.derivations) reached.records (derived_same placement edit tcb_base tcb_is_base) (derived_same placement edit endpoint_base endpoint_is_base)
  inv_performed (Move placement) pass edit =
      inv_rearranged A (with_moved placement A.derivations) reached.records (moved_same placement edit tcb_base tcb_is_base) (moved_same placement edit endpoint_base endpoint_is_base)
  inv_performed (Delete slot) pass edit =
      inv_ends (clear p slot A.derivations) (λ q. live-clear endpoint_base q p slot A.derivations)
  inv_performed (Revoke slot) pass edit =
      inv_ends (revoke p slot A.derivations) (λ q. live-revoke endpoint_base q p slot A.derivations)
  inv_performed (CancelBadged service) pass edit =
      inv_refused (cancelling_badged A (endpoint_at A service.endpoint) service.badge)
      (inv_badged A (endpoint_at A service.endpoint) service.badge reached.records)
  inv_performed (SetSpace new) pass edit = inv_ends (with_space p new A.derivations) (space_endpoints new edit)
  inv_performed (Suspend tcb) pass edit =
      inv_refused (suspending A (thread_at A tcb)) (inv_stopping A (thread_at A tcb) true reached.records)
  inv_performed (Resume tcb) pass edit =
      inv_refused (resuming A (thread_at A tcb)) (inv_stopping A (thread_at A tcb) false reached.records)

outcome_steps : (p : ProfileName) (memory : ℕ) (A : State) (call : Call) → Reached p memory A → (r : Result Invocation Refusal) → decoded_call p (shown A) call ≡ r →
    IsShown (decoded_effect p (shown A) call.thread r) (outcome p A call.thread r)
unfolding shown
outcome_steps p memory A call reached (Err refusal) h = (refl, refl)
outcome_steps p memory A call reached (Ok invocation) h = performed_steps p memory A call.thread reached invocation (passes p A call invocation h) (checked_edit p memory A call invocation reached.store h)

-- the simulation
pub simulates : (p : ProfileName) (memory : ℕ) (A : State) → Reached p memory A → (call : Call) → ((effect_of p (shown A) call).reply ≡ (step p A call).reply) × ((effect_of p (shown A) call).after ≡ shown (step p A call).state)
unfolding step
simulates p memory A reached call = outcome_steps p memory A call reached (decoded_call p (shown A) call) refl

inv_outcome : (p : ProfileName) (memory : ℕ) (A : State) (call : Call) (r : Result Invocation Refusal) → decoded_call p (shown A) call ≡ r → Reached p memory A → Invariant (outcome p A call.thread r).state
inv_outcome p memory A call (Err refusal) h reached = inv_refused A reached.records
inv_outcome p memory A call (Ok invocation) h reached = inv_performed p memory A call.thread reached invocation (passes p A call invocation h) (checked_edit p memory A call invocation reached.store h)

pub reached_step : (p : ProfileName) (memory : ℕ) (A : State) (call : Call) → Reached p memory A → Reached p memory (step p A call).state
unfolding step
reached_step p memory A call reached = record {
  store = outcome_store p memory A call (decoded_call p (shown A) call) refl reached.store;
  housed = outcome_housed p memory A call (decoded_call p (shown A) call) refl reached.store reached.housed;
  records = inv_outcome p memory A call (decoded_call p (shown A) call) refl reached;
}

reached_run : (p : ProfileName) (memory : ℕ) (calls : List Call) (A : State) → Reached p memory A → Reached p memory (state_after p A calls)
unfolding state_after
reached_run p memory [] A reached = reached
reached_run p memory (call ∷ calls) A reached = reached_run p memory calls (step p A call).state (reached_step p memory A call reached)

pub reached_is : (p : ProfileName) (A : State) (r : IsReached p A) → Reached p r.plan.memory_bits A
unfolding boot
reached_is p A r =
    subst (Reached p r.plan.memory_bits) (sym r.is)
    (reached_run p r.plan.memory_bits r.calls (boot p r.plan)
    (record {
      store = store_at_boot p r.plan r.lawful;
      housed = housed_at_boot p r.plan r.lawful;
      records = inv_boot p r.plan;
    }))

pub reached_housed : (p : ProfileName) (A : State) → IsReached p A → IsHoused p A.derivations
reached_housed p A r = (reached_is p A r).housed

pub reached_inv : (p : ProfileName) (A : State) → IsReached p A → Invariant A
reached_inv p A r = (reached_is p A r).records

-- what a kernel's step does, where it stands for a reached state
pub stands : (p : ProfileName) (A : State) (call : Call) (old new : Shown) (reply : Reply) → IsReached p A → old ≡ shown A → reply ≡ (effect_of p old call).reply → new ≡ (effect_of p old call).after → StepsTo p A call reply new
stands p A call old new reply reached shows replied after =
    let w = simulates p reached.plan.memory_bits A (reached_is p A reached) call in
    record {
      reply_is = replied ∙ ap (λ (v : Shown). (effect_of p v call).reply) shows ∙ w.0;
      shows = after ∙ ap (λ (v : Shown). (effect_of p v call).after) shows ∙ w.1;
    }
