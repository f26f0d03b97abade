-- An endpoint that was born and is not live stays so, and delivers nothing more.
use Rattle.std.proofs.Common.{◌≡◌, ℕ, ◌+◌, ◌≤◌, Bool, true, false, cond, ◌==◌, ◌&&◌, ◌||◌, List, [], ◌∷◌, Result, Ok, Err, refl, sym, ap, subst, ◌∙◌, arith, inl, inr, eq-eqb}
use Rattle.std.specs.List.{list_any, zip}
use Rattle.std.proofs.lemmas.Bool.{false≢true, ne_eqb}
use Rattle.cap_core.specs.declared.profile.ProfileName.{ProfileName}
use Rattle.cap_core.specs.declared.message.Message.{Message}
use Rattle.cap_core.specs.declared.refusal.Refusal.{Refusal}
use Rattle.kernel_forest.specs.Forest.{Forest}
use Rattle.kernel_forest.specs.Entries.{Entry}
use Rattle.ipc_core.specs.Records.{Instance, SendRecord, ReceiveRecord, same_instance}
use Rattle.kernel_abstract.specs.declared.call.Call.{Call}
use Rattle.kernel_abstract.specs.declared.call.Reply.{Reply}
use Rattle.kernel_abstract.specs.declared.call.Reply.TheVariants.{Dropped, Empty}
use Rattle.kernel_abstract.specs.declared.invocation.Service.{Service}
use Rattle.kernel_abstract.specs.declared.invocation.NewObjects.{NewObjects}
use Rattle.kernel_abstract.specs.declared.invocation.Invocation.{Invocation}
use Rattle.kernel_abstract.specs.declared.invocation.Invocation.TheVariants.{Send, Receive, Retype, Derive, Move, Delete, Revoke, CancelBadged, SetSpace, Suspend, Resume}
use Rattle.kernel_abstract.specs.Shown.{endpoints_of, endpoint_base}
use Rattle.kernel_abstract.specs.State.{State, endpoint_at, thread_at, pairs, sends_to, receives_of, shown}
use Rattle.kernel_abstract.specs.Deliveries.{is_live}
use Rattle.kernel_delete.specs.Clear.{clear}
use Rattle.kernel_delete.specs.Revoke.{revoke}
use Rattle.kernel_abstract.specs.Cancelling.{is_send_ended, is_receive_ended, is_badged_send, is_sent_by, is_received_by, cancelling, stopping}
use Rattle.kernel_abstract.proofs.Cancelling.Records.{pairs_same}
use Rattle.kernel_abstract.proofs.Cancelling.Waiting.{stays_ended}
use Rattle.kernel_abstract.proofs.Capabilities.StoresCleared.{live-clear, live-revoke}
use Rattle.kernel_abstract.specs.Decode.{decoded_call}
use Rattle.kernel_abstract.specs.Retyping.{with_objects, new_bases}
use Rattle.kernel_abstract.specs.CNodes.{with_derived, with_moved}
use Rattle.kernel_abstract.specs.Threads.{with_space}
use Rattle.kernel_abstract.specs.Reached.{IsReached}
use Rattle.kernel_abstract.specs.Step.{Outcome, is_send_awaited, is_receive_awaited, send_accepted, receive_accepted, where_awaited, objects_made, objects_ended, changed_to, rearranged, performed, outcome, step, state_after}
use Rattle.kernel_abstract.proofs.Messages.WaitingSend.{same_tells, sends_elsewhere}
use Rattle.kernel_abstract.proofs.Messages.WaitingReceive.{receives_elsewhere}
use Rattle.kernel_abstract.proofs.Capabilities.LiveAfter.{endpoint_is_base}
use Rattle.kernel_abstract.proofs.Retype.LiveRetyped.{live-objects, endpoint_base-freed, untyped_full}
use Rattle.kernel_abstract.proofs.Checks.PassedInvocations.{IsEdit}
use Rattle.kernel_abstract.proofs.Reached.Invariant.{Invariant, Passes, passes}
use Rattle.kernel_abstract.proofs.Reached.Stores.{checked_edit}
use Rattle.kernel_abstract.proofs.Reached.Simulation.{Reached, derived_same, moved_same, space_endpoints, reached_step, reached_is}

-- it was born before, is not live after, and its pairs are those it had
record StaysEnded (A : State) (e : Instance) (o : Outcome) : Type 0 where
  pub born : e.birth ≤ o.state.count
  pub ended : is_live o.state e ≡ false
  pub pairs_same : pairs o.state e ≡ pairs A e

module _ (A : State) (e : Instance) (born : e.birth ≤ A.count) (ended : is_live A e ≡ false) where
  -- the endpoint of a message that is sent or received is another
  another : (base : ℕ) → list_any (λ k. base == k) (endpoints_of A.derivations) ≡ true → same_instance (endpoint_at A base) e ≡ false
  another base live = elim (same_tells (endpoint_at A base) e) [
    | inl w ↦ absurd (false≢true (sym ended ∙ subst (λ (m : Instance). is_live A m ≡ true) w
        (ap (λ (b : Bool). b && A.endpoint_birth base == A.endpoint_birth base) live ∙ eq-eqb (A.endpoint_birth base) (A.endpoint_birth base) refl)))
    | inr w ↦ w
  ]

  by_send : (t : ℕ) (service : Service) (message : Message) → Invariant A → list_any (λ k. service.endpoint == k) (endpoints_of A.derivations) ≡ true → StaysEnded A e (send_accepted A t service message)
  by_send t service message inv live = record {
    born = omega (arith, born);
    ended = ended;
    pairs_same = ap (λ (ss : List SendRecord). zip ss (receives_of A e)) (sends_elsewhere A t service message (inv.fresh (A.count + 1) (omega arith)) e (another service.endpoint live));
  }

  by_receive : (t : ℕ) (service : Service) → Invariant A → list_any (λ k. service.endpoint == k) (endpoints_of A.derivations) ≡ true → StaysEnded A e (receive_accepted A t service)
  by_receive t service inv live = record {
    born = omega (arith, born);
    ended = ended;
    pairs_same = ap (λ (qs : List ReceiveRecord). zip (sends_to A e) qs) (receives_elsewhere A t service (inv.fresh (A.count + 1) (omega arith)) inv.numbered e (another service.endpoint live));
  }

  where_not_awaited : (b : Bool) (accepted : Outcome) (reply : Reply) → StaysEnded A e accepted → StaysEnded A e (where_awaited A b accepted reply)
  where_not_awaited true accepted reply stays = stays
  where_not_awaited false accepted reply stays = record { born = omega (arith, born); ended = ended; pairs_same = refl }

  by_rearranging : (f : Forest Entry) → ((q : ℕ) → list_any (λ k. q == k) (endpoints_of f) ≡ list_any (λ k. q == k) (endpoints_of A.derivations)) → StaysEnded A e (rearranged A f)
  by_rearranging f same = record {
    born = omega (arith, born);
    ended = ap (λ (b : Bool). b && (A.endpoint_birth e.base == e.birth)) (same e.base) ∙ ended;
    pairs_same = refl;
  }

  by_making : (p : ProfileName) (new : NewObjects) →
      ((q : ℕ) → list_any (λ k. q == k) (endpoints_of (with_objects p new A.derivations)) ≡ (list_any (λ k. q == k) (new_bases endpoint_base p new) || list_any (λ k. q == k) (endpoints_of A.derivations))) → StaysEnded A e (objects_made p A new)
  by_making p new live = record {
    born = omega (arith, born);
    ended = ap (λ (b : Bool). b && ((objects_made p A new).state.endpoint_birth e.base == e.birth)) (live e.base) ∙ by (list_any (λ k. e.base == k) (new_bases endpoint_base p new));
    pairs_same = refl;
  }
    where
      by : (b : Bool) → ((b || list_any (λ k. e.base == k) (endpoints_of A.derivations)) && (cond b (A.count + 1) (A.endpoint_birth e.base) == e.birth)) ≡ false
      by true = ne_eqb (A.count + 1) e.birth (λ d. absurd (omega (arith, born, d)))
      by false = ended

  by_ending : (g : Forest Entry) → Invariant A →
      ((q : ℕ) → list_any (λ k. q == k) (endpoints_of g) ≡ true →
      list_any (λ k. q == k) (endpoints_of A.derivations) ≡ true) → StaysEnded A e (objects_ended A g)
  by_ending g inv fewer = record {
    born = omega (arith, born);
    ended = stays_ended A g e fewer ended;
    pairs_same = pairs_same A (is_send_ended A g) (is_receive_ended A g) inv.sends_rising inv.rising inv.unshared e;
  }

  -- a cancellation, after which other threads may be inactive
  by_cancelling : (S : SendRecord → Bool) (Q : ReceiveRecord → Bool) (inactive : Instance → Bool) → Invariant A →
      StaysEnded A e (changed_to (record (cancelling A S Q) { is_inactive = inactive }))
  by_cancelling S Q inactive inv = record {
    born = omega (arith, born);
    ended = ended;
    pairs_same = pairs_same A S Q inv.sends_rising inv.rising inv.unshared e;
  }

  by_stopping : (t : ℕ) (inactive : Bool) → Invariant A → StaysEnded A e (changed_to (stopping A (thread_at A t) inactive))
  by_stopping t inactive inv =
      by_cancelling (is_sent_by (thread_at A t)) (is_received_by (thread_at A t))
      (stopping A (thread_at A t) inactive).is_inactive inv

  by_invocation : (p : ProfileName) (memory t : ℕ) → Reached p memory A → (invocation : Invocation) → Passes A t invocation → IsEdit p A.derivations invocation → StaysEnded A e (performed p A t invocation)
  by_invocation p memory t reached (Send service message true) pass edit = by_send t service message reached.records pass.endpoint_live
  by_invocation p memory t reached (Send service message false) pass edit =
      where_not_awaited (is_send_awaited A (endpoint_at A service.endpoint)) (send_accepted A t service message) Dropped (by_send t service message reached.records pass.endpoint_live)
  by_invocation p memory t reached (Receive service true) pass edit = by_receive t service reached.records pass.endpoint_live
  by_invocation p memory t reached (Receive service false) pass edit =
      where_not_awaited (is_receive_awaited A (endpoint_at A service.endpoint)) (receive_accepted A t service) Empty (by_receive t service reached.records pass.endpoint_live)
  by_invocation p memory t reached (Retype new) pass edit = by_making p new (live-objects endpoint_base endpoint_base-freed p new A.derivations (untyped_full new.untyped A.derivations edit.untyped))
  by_invocation p memory t reached (Derive placement) pass edit = by_rearranging (with_derived p placement A.derivations) (derived_same p memory A t reached placement edit endpoint_base endpoint_is_base)
  by_invocation p memory t reached (Move placement) pass edit = by_rearranging (with_moved placement A.derivations) (moved_same p memory A t reached placement edit endpoint_base endpoint_is_base)
  by_invocation p memory t reached (Delete slot) pass edit =
      by_ending (clear p slot A.derivations) reached.records (λ q. live-clear endpoint_base q p slot A.derivations)
  by_invocation p memory t reached (Revoke slot) pass edit =
      by_ending (revoke p slot A.derivations) reached.records (λ q. live-revoke endpoint_base q p slot A.derivations)
  by_invocation p memory t reached (CancelBadged service) pass edit =
      by_cancelling (is_badged_send (endpoint_at A service.endpoint) service.badge)
      (λ _. false) A.is_inactive reached.records
  by_invocation p memory t reached (SetSpace new) pass edit =
      by_ending (with_space p new A.derivations) reached.records (space_endpoints p memory A t reached new edit)
  by_invocation p memory t reached (Suspend tcb) pass edit = by_stopping tcb true reached.records
  by_invocation p memory t reached (Resume tcb) pass edit = by_stopping tcb false reached.records

  by_outcome : (p : ProfileName) (memory : ℕ) → Reached p memory A → (call : Call) (r : Result Invocation Refusal) → decoded_call p (shown A) call ≡ r → StaysEnded A e (outcome p A call.thread r)
  by_outcome p memory reached call (Err refusal) h = record { born = omega (arith, born); ended = ended; pairs_same = refl }
  by_outcome p memory reached call (Ok invocation) h = by_invocation p memory call.thread reached invocation (passes p A call invocation h) (checked_edit p memory A call invocation reached.store h)

by_run : (p : ProfileName) (memory : ℕ) (calls : List Call) (A : State) (e : Instance) → Reached p memory A → e.birth ≤ A.count → is_live A e ≡ false → (is_live (state_after p A calls) e ≡ false) × (pairs (state_after p A calls) e ≡ pairs A e)
unfolding state_after step
by_run p memory [] A e reached born ended = (ended, refl)
by_run p memory (call ∷ calls) A e reached born ended =
    let stays = by_outcome A e born ended p memory reached call (decoded_call p (shown A) call) refl in
    let w = by_run p memory calls (step p A call).state e (reached_step p memory A call reached) stays.born stays.ended in
    (w.0, w.1 ∙ stays.pairs_same)

-- for good
pub pairs_for_good : (p : ProfileName) (A : State) (calls : List Call) (e : Instance) → IsReached p A → e.birth ≤ A.count → is_live A e ≡ false → pairs (state_after p A calls) e ≡ pairs A e
pairs_for_good p A calls e r born ended = (by_run p r.plan.memory_bits calls A e (reached_is p A r) born ended).1

pub ended_for_good : (p : ProfileName) (A : State) (calls : List Call) (e : Instance) → IsReached p A → e.birth ≤ A.count → is_live A e ≡ false → is_live (state_after p A calls) e ≡ false
ended_for_good p A calls e r born ended = (by_run p r.plan.memory_bits calls A e (reached_is p A r) born ended).0
