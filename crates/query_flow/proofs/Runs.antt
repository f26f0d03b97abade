-- Flows by each call, and by runs.
use Rattle.std.proofs.Common.{◌≡◌, ℕ, ◌⊎◌, inl, inr, Bool, true, false, cond, ◌==◌, ◌||◌, List, [], ◌∷◌, map, Option, Some, None, IsSome, Result, Ok, Err, refl, sym, subst}
use Rattle.std.proofs.lemmas.Bool.{false≢true, eqb-true}
use Rattle.std.specs.List.{list_any, filter_map}
use Rattle.std.specs.FinMap.{get}
use Rattle.cap_core.specs.declared.capability.Cap.{Cap}
use Rattle.cap_core.specs.declared.capability.Cap.TheVariants.{Null, Untyped, Endpoint, CNode, Tcb}
use Rattle.kernel_abstract.specs.declared.reason.Reason.{Reason}
use Rattle.kernel_abstract.specs.Shown.{ThreadView, tcb_base, threads_of}
use Rattle.kernel_abstract.proofs.Checks.Walked.{unrefused}
use Rattle.kernel_abstract.proofs.Lists.Tables.{get_table}
use Rattle.std.specs.List.{AllByRecursion as Each}
use Rattle.cap_core.specs.declared.profile.ProfileName.{ProfileName}
use Rattle.cap_core.specs.declared.refusal.Refusal.{Refusal}
use Rattle.kernel_forest.specs.Forest.{Forest, preorder}
use Rattle.kernel_forest.specs.Entries.{Entry}
use Rattle.kernel_delete.specs.Clear.{clear}
use Rattle.kernel_delete.specs.Revoke.{revoke}
use Rattle.kernel_abstract.specs.declared.call.Call.{Call}
use Rattle.kernel_abstract.specs.declared.call.Reply.{Reply}
use Rattle.kernel_abstract.specs.declared.invocation.Invocation.{Invocation}
use Rattle.kernel_abstract.specs.declared.invocation.Invocation.TheVariants.{Send, Receive, Retype, Derive, Move, Delete, Revoke, CancelBadged, SetSpace, Suspend, Resume}
use Rattle.kernel_abstract.specs.CNodes.{with_derived, with_moved}
use Rattle.kernel_abstract.specs.Retyping.{with_objects}
use Rattle.kernel_abstract.specs.Threads.{with_space}
use Rattle.kernel_abstract.specs.Decode.{checked_op, checked_call, decoded_call, ensure_live}
use Rattle.kernel_abstract.specs.State.{State, shown, thread_view, endpoint_at}
use Rattle.kernel_abstract.specs.Step.{Outcome, outcome, performed, where_awaited, is_send_awaited, is_receive_awaited, send_accepted, receive_accepted, step, state_after}
use Rattle.kernel_abstract.specs.Private.Stores.{IsKernelStore}
use Rattle.kernel_abstract.specs.Reached.{IsReached}
use Rattle.kernel_abstract.proofs.Checks.PassedInvocations.{IsEdit, call_passed}
use Rattle.kernel_abstract.proofs.Reached.Stores.{checked_edit}
use Rattle.kernel_abstract.proofs.Reached.Simulation.{reached_is}
use Rattle.kernel_abstract.proofs.Reached.Runs.{reached_after}
use Rattle.query_parts.proofs.Messages.{IsMessage, MayBeMessage, call_passes}
use Rattle.query_flow.specs.Flow.{Flow, HoldsWhatMayStand, IsSettled, IsSettledFor}
use Rattle.query_flow.specs.Laws.{IsExpected, StayHeld}
use Rattle.query_flow.proofs.Passed.{StaysIn, op_stays}
use Rattle.query_flow.proofs.Changes.{IsFine, AreFine, held_of_fine, fine_of_held, fine-clear, fine-revoke, fine-with_derived, fine-with_moved, fine-with_space, fine-with_objects}

-- a call that passes its checks is of a live thread
live_view : (o : Option ThreadView) (found : Result Invocation Reason) (done : Invocation) → ensure_live o found ≡ Ok done → IsSome o
live_view None found done h = cc
live_view (Some view) found done h = refl

key_of : {X : Type 0} (b : Bool) (x : X) → IsSome (cond b (Some x) None) → b ≡ true
key_of true x h = refl
key_of false x h = absurd (false≢true h)

live_thread : (p : ProfileName) (A : State) (call : Call) (done : Invocation) → decoded_call p (shown A) call ≡ Ok done →
    list_any (λ k. call.thread == k) (threads_of A.derivations) ≡ true
unfolding shown
live_thread p A call done h =
    let view = live_view (get (shown A).threads call.thread) (checked_op p (shown A).derivations call.thread call.op) done (unrefused (checked_call p (shown A) call) done h) in
    key_of (list_any (λ k. call.thread == k) (threads_of A.derivations)) (thread_view A call.thread)
    (subst IsSome (get_table (threads_of A.derivations) (thread_view A) call.thread) view)

-- some slot holds its capability
stands_first : (flow : Flow) (thread set : ℕ) (cap : Cap) → flow.may set cap ≡ true →
    list_any (λ k. thread == k) (filter_map tcb_base (cap ∷ [])) ≡ true → (set : ℕ) × (flow.may set (Tcb thread) ≡ true)
stands_first flow thread set Null may live = absurd (false≢true live)
stands_first flow thread set (Untyped base bits free) may live = absurd (false≢true live)
stands_first flow thread set (Endpoint base badge rights) may live = absurd (false≢true live)
stands_first flow thread set (CNode base radix guard) may live = absurd (false≢true live)
stands_first flow thread set (Tcb base) may live =
    (set, subst (λ n. flow.may set (Tcb n) ≡ true) (sym (eqb-true thread base (or_last (thread == base) live))) may)
  where
    or_last : (b : Bool) → b || false ≡ true → b ≡ true
    or_last true h = refl
    or_last false h = h

any_parts : (thread : ℕ) (cap : Cap) (cs : List Cap) → list_any (λ k. thread == k) (filter_map tcb_base (cap ∷ cs)) ≡ true →
    (list_any (λ k. thread == k) (filter_map tcb_base (cap ∷ [])) ≡ true) ⊎ (list_any (λ k. thread == k) (filter_map tcb_base cs) ≡ true)
any_parts thread Null cs h = inr h
any_parts thread (Untyped base bits free) cs h = inr h
any_parts thread (Endpoint base badge rights) cs h = inr h
any_parts thread (CNode base radix guard) cs h = inr h
any_parts thread (Tcb base) cs h = or_parts' (thread == base) (list_any (λ k. thread == k) (filter_map tcb_base cs)) h
  where
    or_parts' : (a b : Bool) → a || b ≡ true → (a || false ≡ true) ⊎ (b ≡ true)
    or_parts' true b h = inl refl
    or_parts' false b h = inr h

stands_in : (flow : Flow) (thread : ℕ) (es : List Entry) → Each (IsFine flow) es →
    list_any (λ k. thread == k) (filter_map tcb_base (map (λ (e : Entry). e.cap) es)) ≡ true → (set : ℕ) × (flow.may set (Tcb thread) ≡ true)
stands_in flow thread [] h live = absurd (false≢true live)
stands_in flow thread (e ∷ es) h live = elim (any_parts thread e.cap (map (λ (e : Entry). e.cap) es) live) [
  | inl first ↦ stands_first flow thread (flow.set_of e.slot) e.cap h.0 first
  | inr rest ↦ stands_in flow thread es h.1 rest
]

live_stands : (flow : Flow) (A : State) (thread : ℕ) → AreFine flow A.derivations → list_any (λ k. thread == k) (threads_of A.derivations) ≡ true →
    (set : ℕ) × (flow.may set (Tcb thread) ≡ true)
live_stands flow A thread fine live = stands_in flow thread (preorder A.derivations) fine live

module _ (p : ProfileName) (flow : Flow) (settled : IsSettled p flow) where
  -- a thread that is not trusted and passes its checks
  pub free_stays : (A : State) (call : Call) (done : Invocation) → IsReached p A → HoldsWhatMayStand flow A.derivations → flow.trusted call.thread ≡ false →
      decoded_call p (shown A) call ≡ Ok done → IsSettledFor p flow (flow.set_of call.thread) × StaysIn p flow (flow.set_of call.thread) done
  unfolding shown
  free_stays A call done reached held free h =
      let store = (reached_is p A reached).store in
      let fine = fine_of_held p flow settled A.derivations store.slots_distinct held in
      let (set, may) = live_stands flow A call.thread fine (live_thread p A call done h) in
      let caller = settled.callers set call.thread may free in
      (caller, op_stays p flow (flow.set_of call.thread) caller A.derivations held call.thread refl call.op done (call_passed p (shown A) call done h))

  module _ (A : State) (held : HoldsWhatMayStand flow A.derivations) where
    awaited_held : (awaited : Bool) (accepted : Outcome) (reply : Reply) → HoldsWhatMayStand flow accepted.state.derivations →
        HoldsWhatMayStand flow (where_awaited A awaited accepted reply).state.derivations
    awaited_held true accepted reply h = h
    awaited_held false accepted reply h = held

    module _ (memory thread : ℕ) (store : IsKernelStore p memory A.derivations) (caller : IsSettledFor p flow (flow.set_of thread)) where
      fine : AreFine flow A.derivations
      fine = fine_of_held p flow settled A.derivations store.slots_distinct held

      now_held : (g : Forest Entry) → AreFine flow g → HoldsWhatMayStand flow g
      now_held g h = held_of_fine p flow settled g h

      performed_held : (done : Invocation) → IsEdit p A.derivations done → StaysIn p flow (flow.set_of thread) done →
          HoldsWhatMayStand flow (performed p A thread done).state.derivations
      performed_held (Send service message true) edit stays = held
      performed_held (Send service message false) edit stays =
          awaited_held (is_send_awaited A (endpoint_at A service.endpoint)) (send_accepted A thread service message) _ held
      performed_held (Receive service true) edit stays = held
      performed_held (Receive service false) edit stays =
          awaited_held (is_receive_awaited A (endpoint_at A service.endpoint)) (receive_accepted A thread service) _ held
      performed_held (Retype new) edit stays =
          now_held (with_objects p new A.derivations) (fine-with_objects p flow settled (flow.set_of thread) A.derivations fine caller held new edit stays)
      performed_held (Derive placement) edit stays =
          now_held (with_derived p placement A.derivations) (fine-with_derived p flow settled (flow.set_of thread) A.derivations fine placement stays)
      performed_held (Move placement) edit stays =
          now_held (with_moved placement A.derivations) (fine-with_moved p flow settled (flow.set_of thread) A.derivations fine placement stays)
      performed_held (Delete slot) edit stays = now_held (clear p slot A.derivations) (fine-clear p flow settled slot A.derivations fine)
      performed_held (Revoke slot) edit stays = now_held (revoke p slot A.derivations) (fine-revoke p flow settled slot A.derivations fine)
      performed_held (CancelBadged service) edit stays = held
      performed_held (SetSpace new) edit stays =
          now_held (with_space p new A.derivations) (fine-with_space p flow settled (flow.set_of thread) A.derivations fine store.slots_distinct new edit stays)
      performed_held (Suspend tcb) edit stays = held
      performed_held (Resume tcb) edit stays = held

    message_held : (thread : ℕ) (done : Invocation) → IsMessage done → HoldsWhatMayStand flow (performed p A thread done).state.derivations
    message_held thread (Send service message true) is = held
    message_held thread (Send service message false) is =
        awaited_held (is_send_awaited A (endpoint_at A service.endpoint)) (send_accepted A thread service message) _ held
    message_held thread (Receive service true) is = held
    message_held thread (Receive service false) is =
        awaited_held (is_receive_awaited A (endpoint_at A service.endpoint)) (receive_accepted A thread service) _ held
    message_held thread (Retype new) is = absurd is
    message_held thread (Derive placement) is = absurd is
    message_held thread (Move placement) is = absurd is
    message_held thread (Delete slot) is = absurd is
    message_held thread (Revoke slot) is = absurd is
    message_held thread (CancelBadged service) is = absurd is
    message_held thread (SetSpace new) is = absurd is
    message_held thread (Suspend tcb) is = absurd is
    message_held thread (Resume tcb) is = absurd is

    outcome_held : (thread : ℕ) (r : Result Invocation Refusal) → MayBeMessage r → HoldsWhatMayStand flow (outcome p A thread r).state.derivations
    outcome_held thread (Err refusal) is = held
    outcome_held thread (Ok done) is = message_held thread done is

  free_held : (memory : ℕ) (A : State) (call : Call) (r : Result Invocation Refusal) → IsReached p A → IsKernelStore p memory A.derivations →
      HoldsWhatMayStand flow A.derivations → flow.trusted call.thread ≡ false → decoded_call p (shown A) call ≡ r → HoldsWhatMayStand flow (outcome p A call.thread r).state.derivations
  free_held memory A call (Err refusal) reached store held free h = held
  free_held memory A call (Ok done) reached store held free h =
      let stays = free_stays A call done reached held free h in
      performed_held A held memory call.thread store stays.0 done (checked_edit p memory A call done store h) stays.1

  pub step_held : (A : State) (call : Call) → IsReached p A → HoldsWhatMayStand flow A.derivations → IsExpected flow call → HoldsWhatMayStand flow (step p A call).state.derivations
  unfolding step
  step_held A call reached held (inl free) =
      free_held reached.plan.memory_bits A call (decoded_call p (shown A) call) reached (reached_is p A reached).store held free refl
  step_held A call reached held (inr passes) =
      outcome_held A held call.thread (decoded_call p (shown A) call) (call_passes p (shown A) call passes)

  pub run_held : (A : State) (calls : List Call) → IsReached p A → HoldsWhatMayStand flow A.derivations → Each (IsExpected flow) calls →
      HoldsWhatMayStand flow (state_after p A calls).derivations
  unfolding state_after
  run_held A [] reached held of = held
  run_held A (call ∷ calls) reached held of =
      run_held (step p A call).state calls (reached_after p A (call ∷ []) reached) (step_held A call reached held of.0) of.1

pub stay_held : (p : ProfileName) (flow : Flow) (A : State) (calls : List Call) → StayHeld p flow A calls
stay_held p flow A calls reached settled held of = run_held p flow settled A calls reached held of
