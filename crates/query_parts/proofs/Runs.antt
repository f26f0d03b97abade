-- Confinement by each call, and by runs.
use Rattle.std.proofs.Common.{◌≡◌, ℕ, ◌⊎◌, inl, inr, Bool, true, false, List, [], ◌∷◌, ◌++◌, Some, None, Result, Ok, Err, refl, sym, ap, subst, ◌∙◌, append_assoc, append-nil, eq-eqb, ◌==◌}
use Rattle.std.proofs.lemmas.Bool.{eqb-true, false≢true}
use Rattle.std.specs.List.{AllByRecursion as Each}
use Rattle.cap_core.specs.declared.profile.ProfileName.{ProfileName}
use Rattle.cap_core.specs.declared.refusal.Refusal.{Refusal}
use Rattle.cap_core.specs.declared.capability.Cap.TheVariants.{Null}
use Rattle.cap_core.specs.declared.message.Message.{Message}
use Rattle.cap_core.specs.Rights.{write_bit, read_bit}
use Rattle.ipc_core.specs.Records.{SendRecord, ReceiveRecord}
use Rattle.kernel_forest.specs.Entries.{cap_at}
use Rattle.kernel_forest.proofs.Trees.Forests.{each-append, each-weaker}
use Rattle.kernel_abstract.specs.declared.call.Call.{Call}
use Rattle.kernel_abstract.specs.declared.call.Reply.{Reply}
use Rattle.kernel_abstract.specs.declared.invocation.Service.{Service}
use Rattle.kernel_abstract.specs.declared.invocation.Invocation.{Invocation}
use Rattle.kernel_abstract.specs.declared.invocation.Invocation.TheVariants.{Send, Receive, Retype, Derive, Move, Delete, Revoke, CancelBadged, SetSpace, Suspend, Resume}
use Rattle.kernel_abstract.specs.Decode.{decoded_call}
use Rattle.kernel_abstract.specs.State.{State, shown, endpoint_at}
use Rattle.kernel_abstract.specs.Step.{Outcome, outcome, performed, where_awaited, is_send_awaited, is_receive_awaited, send_accepted, receive_accepted, send_record, receive_record, step, state_after}
use Rattle.kernel_abstract.specs.Private.Stores.{IsKernelStore}
use Rattle.kernel_abstract.specs.Reached.{IsReached}
use Rattle.kernel_abstract.proofs.Checks.PassedInvocations.{IsEdit, call_passed}
use Rattle.kernel_abstract.proofs.Reached.Stores.{checked_edit}
use Rattle.kernel_abstract.proofs.Reached.Simulation.{reached_is}
use Rattle.kernel_abstract.proofs.Reached.Runs.{reached_after}
use Rattle.query_parts.specs.Parts.{Parts, IsWithin, IsClosed, IsSpared}
use Rattle.query_parts.proofs.Spared.{spared-delete, spared-revoke, spared-derived, spared-moved, spared-objects, spared-space}
use Rattle.query_parts.specs.Laws.{StaysClosed, LeavesOthers, TakesOnlyNear, AreClosed, IsOfSomePart, IsAllowed, OnlyPasses, MayUse, StayClosed, IsSentWithin, IsReceivedWithin, IsSentByPart, IsReceivedByPart, SendWithin, ReceiveWithin, SendByParts, ReceiveByParts}
use Rattle.query_parts.proofs.Passed.{IsServed, StaysIn, op_stays}
use Rattle.query_parts.proofs.Messages.{IsMessage, MayBeMessage, call_passes}
use Rattle.query_parts.proofs.Changes.{IsChange, change_closed, change_untouched, unchanged, change-clear, change-revoke, change-with_derived, change-with_moved, change-with_space, change-with_objects}

pub some_is : (a b : ℕ) → Some a ≡ Some b → a ≡ b
some_is a b h = cc

-- the records that a state has beyond those of another
abbrev pub More : {X : Type 0} → (X → Type 0) → List X → List X → Type 0
More {X} P old new = (more : List X) × ((new ≡ old ++ more) × Each P more)

pub no_more : {X : Type 0} (P : X → Type 0) (old : List X) → More P old old
no_more P old = ([], (sym (append-nil old), tt))

pub one_more : {X : Type 0} (P : X → Type 0) (old : List X) (x : X) → P x → More P old (old ++ x ∷ [])
one_more P old x h = (x ∷ [], (refl, (h, tt)))

pub then_more : {X : Type 0} (P : X → Type 0) (a b c : List X) → More P a b → More P b c → More P a c
then_more P a b c h k = (
  h.0 ++ k.0,
  (k.1.0 ∙ ap (λ l. l ++ k.0) h.1.0 ∙ append_assoc a h.0 k.0, each-append P h.0 k.0 h.1.1 k.1.1),
)

more-weaker : {X : Type 0} (P Q : X → Type 0) (a b : List X) → ((x : X) → P x → Q x) → More P a b → More Q a b
more-weaker P Q a b weaker h = (h.0, (h.1.0, each-weaker P Q weaker h.0 h.1.1))

module _ (p : ProfileName) (parts : Parts) where
  sent_within : (s : SendRecord) → IsSentByPart p parts s → IsSentWithin p parts s
  sent_within s (i, (own, may)) k at = subst (λ n. MayUse p parts write_bit n s.endpoint.base s.badge) (some_is i k (sym own ∙ at)) may

  received_within : (a : ReceiveRecord) → IsReceivedByPart p parts a → IsReceivedWithin p parts a
  received_within a (i, (own, (badge, may))) k at = (badge, subst (λ n. MayUse p parts read_bit n a.endpoint.base badge) (some_is i k (sym own ∙ at)) may)

  -- what a call of a thread of a part comes to
  record IsKept (i : ℕ) (A B : State) : Type 0 where
    change : IsChange p parts i A.derivations B.derivations
    spared : IsSpared p parts i A.derivations B.derivations
    sends : More (IsSentByPart p parts) A.sends B.sends
    receives : More (IsReceivedByPart p parts) A.receives B.receives

  kept_where : (i : ℕ) (A : State) (awaited : Bool) (accepted : Outcome) (reply : Reply) → IsKept i A accepted.state →
      IsKept i A A → IsKept i A (where_awaited A awaited accepted reply).state
  kept_where i A true accepted reply k rest = k
  kept_where i A false accepted reply k rest = record { change = rest.change; spared = rest.spared; sends = rest.sends; receives = rest.receives }

  module _ (memory i : ℕ) (A : State) (store : IsKernelStore p memory A.derivations) (closed : IsClosed p parts i A.derivations)
      (thread : ℕ) (own : parts.part_of thread ≡ Some i) where
    at_rest : IsKept i A A
    at_rest = record {
      change = unchanged p parts i A.derivations closed store.slots_distinct;
      spared = λ slot other. inl refl;
      sends = no_more (IsSentByPart p parts) A.sends;
      receives = no_more (IsReceivedByPart p parts) A.receives;
    }

    sent : (service : Service) (message : Message) → IsServed p parts i write_bit service →
        IsKept i A (send_accepted A thread service message).state
    sent service message is = record {
      change = at_rest.change;
      spared = at_rest.spared;
      sends = one_more (IsSentByPart p parts) A.sends (send_record A thread service message)
          (i, (own, (is.rights, (is.within, is.has))));
      receives = at_rest.receives;
    }

    received : (service : Service) → IsServed p parts i read_bit service → IsKept i A (receive_accepted A thread service).state
    received service is = record {
      change = at_rest.change;
      spared = at_rest.spared;
      sends = at_rest.sends;
      receives = one_more (IsReceivedByPart p parts) A.receives (receive_record A thread service)
          (i, (own, (service.badge, (is.rights, (is.within, is.has)))));
    }

    performed_kept : (done : Invocation) → IsEdit p A.derivations done → StaysIn p parts i done → IsKept i A (performed p A thread done).state
    performed_kept (Send service message true) edit stays = sent service message stays
    performed_kept (Send service message false) edit stays =
        kept_where i A (is_send_awaited A (endpoint_at A service.endpoint)) (send_accepted A thread service message) _
        (sent service message stays) at_rest
    performed_kept (Receive service true) edit stays = received service stays
    performed_kept (Receive service false) edit stays =
        kept_where i A (is_receive_awaited A (endpoint_at A service.endpoint)) (receive_accepted A thread service) _
        (received service stays) at_rest
    performed_kept (Retype new) edit stays =
        record { change = change-with_objects p parts i A.derivations closed store.slots_distinct new edit stays; spared = spared-objects p parts i memory A.derivations store closed new stays; sends = at_rest.sends; receives = at_rest.receives }
    performed_kept (Derive placement) edit stays =
        record { change = change-with_derived p parts i A.derivations closed store.slots_distinct placement stays; spared = spared-derived p parts i memory A.derivations store closed placement stays; sends = at_rest.sends; receives = at_rest.receives }
    performed_kept (Move placement) edit stays =
        record { change = change-with_moved p parts i A.derivations closed store.slots_distinct placement stays; spared = spared-moved p parts i memory A.derivations store closed placement stays; sends = at_rest.sends; receives = at_rest.receives }
    performed_kept (Delete slot) edit stays =
        record { change = change-clear p parts i A.derivations closed store.slots_distinct slot A.derivations at_rest.change; spared = spared-delete p parts i memory A.derivations store closed slot stays; sends = at_rest.sends; receives = at_rest.receives }
    performed_kept (Revoke slot) edit stays =
        record { change = change-revoke p parts i A.derivations closed store.slots_distinct slot; spared = spared-revoke p parts i memory A.derivations store closed slot stays; sends = at_rest.sends; receives = at_rest.receives }
    performed_kept (CancelBadged service) edit stays =
        record { change = at_rest.change; spared = at_rest.spared; sends = at_rest.sends; receives = at_rest.receives }
    performed_kept (SetSpace new) edit stays =
        record { change = change-with_space p parts i A.derivations closed store.slots_distinct new edit stays; spared = spared-space p parts i memory A.derivations store closed new edit stays; sends = at_rest.sends; receives = at_rest.receives }
    performed_kept (Suspend tcb) edit stays =
        record { change = at_rest.change; spared = at_rest.spared; sends = at_rest.sends; receives = at_rest.receives }
    performed_kept (Resume tcb) edit stays =
        record { change = at_rest.change; spared = at_rest.spared; sends = at_rest.sends; receives = at_rest.receives }

  outcome_kept : (memory i : ℕ) (A : State) (call : Call) (r : Result Invocation Refusal) → IsKernelStore p memory A.derivations →
      IsClosed p parts i A.derivations → parts.part_of call.thread ≡ Some i → decoded_call p (shown A) call ≡ r →
      IsKept i A (outcome p A call.thread r).state
  unfolding shown
  outcome_kept memory i A call (Err refusal) store closed own h =
      let none = at_rest memory i A store closed call.thread own in
      record { change = none.change; spared = none.spared; sends = none.sends; receives = none.receives }
  outcome_kept memory i A call (Ok done) store closed own h =
      performed_kept memory i A store closed call.thread own done (checked_edit p memory A call done store h)
      (op_stays p parts i A.derivations closed call.thread own call.op done
      (call_passed p (shown A) call done h))

  step_kept : (i : ℕ) (A : State) (call : Call) → IsReached p A → IsClosed p parts i A.derivations →
      parts.part_of call.thread ≡ Some i → IsKept i A (step p A call).state
  unfolding step
  step_kept i A call reached closed own =
      outcome_kept reached.plan.memory_bits i A call (decoded_call p (shown A) call) (reached_is p A reached).store closed own refl

  pub stays_closed : (i : ℕ) (A : State) (call : Call) → StaysClosed p parts i A call
  stays_closed i A call reached closed own =
      change_closed p parts i A.derivations closed (step p A call).state.derivations (step_kept i A call reached closed own).change

  pub leaves_others : (i : ℕ) (A : State) (call : Call) → LeavesOthers p parts i A call
  leaves_others i A call reached closed own =
      change_untouched p parts i A.derivations closed (step p A call).state.derivations (step_kept i A call reached closed own).change

  pub takes_only_near : (i : ℕ) (A : State) (call : Call) → TakesOnlyNear p parts i A call
  takes_only_near i A call reached closed own = (step_kept i A call reached closed own).spared

  -- so every part stays closed
  pub step_closed : (A : State) (call : Call) → IsReached p A → AreClosed p parts A → IsOfSomePart parts call →
      AreClosed p parts (step p A call).state
  step_closed A call reached closed (i, own) j slot here =
      (elim (i == j) as (λ b. (i == j) ≡ b → IsWithin p parts j (cap_at (step p A call).state.derivations slot)) [
        | true ↦ λ is.
            let same = eqb-true i j is in
            subst (λ k. IsWithin p parts k (cap_at (step p A call).state.derivations slot)) same
            (stays_closed i A call reached (closed i) own slot (here ∙ ap Some (sym same)))
        | false ↦ λ other.
            by (leaves_others i A call reached (closed i) own slot
            (λ in_i. absurd (false≢true (sym other ∙ eq-eqb i j (some_is i j (sym in_i ∙ here))))))
      ]) refl
    where
      by : (cap_at (step p A call).state.derivations slot ≡ cap_at A.derivations slot) ⊎ (cap_at (step p A call).state.derivations slot ≡ Null) →
          IsWithin p parts j (cap_at (step p A call).state.derivations slot)
      by (inl old) = subst (IsWithin p parts j) (sym old) (closed j slot here)
      by (inr none) = subst (IsWithin p parts j) (sym none) tt

  -- a run
  record IsRun (A B : State) : Type 0 where
    closed : AreClosed p parts B
    sends : More (IsSentWithin p parts) A.sends B.sends
    receives : More (IsReceivedWithin p parts) A.receives B.receives

  -- a message of a thread of no part
  module _ (A : State) (closed : AreClosed p parts A) (thread : ℕ) (outside : parts.part_of thread ≡ None) where
    as_was : IsRun A A
    as_was = record { closed = closed; sends = no_more (IsSentWithin p parts) A.sends; receives = no_more (IsReceivedWithin p parts) A.receives }

    in_none : (k : ℕ) → parts.part_of thread ≡ Some k → ⊥
    in_none k at = let e : None ≡ Some k = sym outside ∙ at in cc

    sent_outside : (service : Service) (message : Message) → IsRun A (send_accepted A thread service message).state
    sent_outside service message = record {
      closed = closed;
      sends = one_more (IsSentWithin p parts) A.sends (send_record A thread service message) (λ k at. absurd (in_none k at));
      receives = as_was.receives;
    }

    received_outside : (service : Service) → IsRun A (receive_accepted A thread service).state
    received_outside service = record {
      closed = closed;
      sends = as_was.sends;
      receives = one_more (IsReceivedWithin p parts) A.receives (receive_record A thread service) (λ k at. absurd (in_none k at));
    }

    awaited_outside : (awaited : Bool) (accepted : Outcome) (reply : Reply) → IsRun A accepted.state → IsRun A (where_awaited A awaited accepted reply).state
    awaited_outside true accepted reply run = run
    awaited_outside false accepted reply run = record { closed = closed; sends = as_was.sends; receives = as_was.receives }

    performed_outside : (done : Invocation) → IsMessage done → IsRun A (performed p A thread done).state
    performed_outside (Send service message true) is = sent_outside service message
    performed_outside (Send service message false) is =
        awaited_outside (is_send_awaited A (endpoint_at A service.endpoint)) (send_accepted A thread service message) _ (sent_outside service message)
    performed_outside (Receive service true) is = received_outside service
    performed_outside (Receive service false) is =
        awaited_outside (is_receive_awaited A (endpoint_at A service.endpoint)) (receive_accepted A thread service) _ (received_outside service)
    performed_outside (Retype new) is = absurd is
    performed_outside (Derive placement) is = absurd is
    performed_outside (Move placement) is = absurd is
    performed_outside (Delete slot) is = absurd is
    performed_outside (Revoke slot) is = absurd is
    performed_outside (CancelBadged service) is = absurd is
    performed_outside (SetSpace new) is = absurd is
    performed_outside (Suspend tcb) is = absurd is
    performed_outside (Resume tcb) is = absurd is

    outcome_outside : (r : Result Invocation Refusal) → MayBeMessage r → IsRun A (outcome p A thread r).state
    outcome_outside (Err refusal) is = record { closed = closed; sends = as_was.sends; receives = as_was.receives }
    outcome_outside (Ok done) is = performed_outside done is

  step_outside : (A : State) (call : Call) → AreClosed p parts A → parts.part_of call.thread ≡ None → OnlyPasses call.op → IsRun A (step p A call).state
  unfolding step shown
  step_outside A call closed outside passes =
      outcome_outside A closed call.thread outside (decoded_call p (shown A) call) (call_passes p (shown A) call passes)

  step_run : (A : State) (call : Call) → IsReached p A → AreClosed p parts A → IsAllowed parts call → IsRun A (step p A call).state
  step_run A call reached closed (inl (i, own)) =
      let kept = step_kept i A call reached (closed i) own in
      record {
        closed = step_closed A call reached closed (i, own);
        sends = more-weaker (IsSentByPart p parts) (IsSentWithin p parts) A.sends (step p A call).state.sends sent_within kept.sends;
        receives = more-weaker (IsReceivedByPart p parts) (IsReceivedWithin p parts) A.receives (step p A call).state.receives received_within kept.receives;
      }
  step_run A call reached closed (inr (outside, passes)) = step_outside A call closed outside passes

  pub step_allowed : (A : State) (call : Call) → IsReached p A → AreClosed p parts A → IsAllowed parts call → AreClosed p parts (step p A call).state
  step_allowed A call reached closed of = (step_run A call reached closed of).closed

  run_kept : (A : State) (calls : List Call) → IsReached p A → AreClosed p parts A → Each (IsAllowed parts) calls →
      IsRun A (state_after p A calls)
  unfolding state_after
  run_kept A [] reached closed of =
      record { closed = closed; sends = no_more (IsSentWithin p parts) A.sends; receives = no_more (IsReceivedWithin p parts) A.receives }
  run_kept A (call ∷ calls) reached closed of =
      let B : State = (step p A call).state in
      let kept = step_run A call reached closed of.0 in
      let rest = run_kept B calls (reached_after p A (call ∷ []) reached) kept.closed of.1 in
      record {
        closed = rest.closed;
        sends = then_more (IsSentWithin p parts) A.sends B.sends (state_after p B calls).sends kept.sends rest.sends;
        receives = then_more (IsReceivedWithin p parts) A.receives B.receives (state_after p B calls).receives kept.receives rest.receives;
      }

  pub stay_closed : (A : State) (calls : List Call) → StayClosed p parts A calls
  stay_closed A calls reached closed of = (run_kept A calls reached closed of).closed

  pub send_within : (A : State) (calls : List Call) → SendWithin p parts A calls
  send_within A calls reached closed of = (run_kept A calls reached closed of).sends

  pub receive_within : (A : State) (calls : List Call) → ReceiveWithin p parts A calls
  receive_within A calls reached closed of = (run_kept A calls reached closed of).receives

  -- a run of parts' threads
  record IsRunOfParts (A B : State) : Type 0 where
    sends : More (IsSentByPart p parts) A.sends B.sends
    receives : More (IsReceivedByPart p parts) A.receives B.receives

  run_of_parts : (A : State) (calls : List Call) → IsReached p A → AreClosed p parts A → Each (IsOfSomePart parts) calls →
      IsRunOfParts A (state_after p A calls)
  unfolding state_after
  run_of_parts A [] reached closed of =
      record { sends = no_more (IsSentByPart p parts) A.sends; receives = no_more (IsReceivedByPart p parts) A.receives }
  run_of_parts A (call ∷ calls) reached closed of =
      let B : State = (step p A call).state in
      let kept = step_kept of.0.0 A call reached (closed of.0.0) of.0.1 in
      let rest = run_of_parts B calls (reached_after p A (call ∷ []) reached) (step_closed A call reached closed of.0) of.1 in
      record {
        sends = then_more (IsSentByPart p parts) A.sends B.sends (state_after p B calls).sends kept.sends rest.sends;
        receives = then_more (IsReceivedByPart p parts) A.receives B.receives (state_after p B calls).receives kept.receives rest.receives;
      }

  pub send_by_parts : (A : State) (calls : List Call) → SendByParts p parts A calls
  send_by_parts A calls reached closed of = (run_of_parts A calls reached closed of).sends

  pub receive_by_parts : (A : State) (calls : List Call) → ReceiveByParts p parts A calls
  receive_by_parts A calls reached closed of = (run_of_parts A calls reached closed of).receives
