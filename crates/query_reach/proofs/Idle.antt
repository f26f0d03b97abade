-- Threads that reach endpoints' capabilities alone change no slot.
use Rattle.std.proofs.Common.{◌≡◌, ℕ, refl, subst, ◌∙◌, sym, Bool, true, false, List, [], ◌∷◌, Option, Some, None, Result, Ok, Err}
use Rattle.std.specs.Bool.{⊤}
use Rattle.std.specs.List.{AllByRecursion as Each}
use Rattle.cap_core.specs.declared.profile.ProfileName.{ProfileName}
use Rattle.cap_core.specs.declared.capability.Cap.{Cap}
use Rattle.cap_core.specs.declared.capability.Cap.TheVariants.{Null, Untyped, Endpoint, CNode, Tcb}
use Rattle.cap_core.specs.declared.capability.Kind.TheVariants as kind
use Rattle.cap_core.specs.declared.message.Message.{Message}
use Rattle.cap_core.specs.declared.refusal.Refusal.{Refusal}
use Rattle.cap_core.specs.Checks.{◌>>=◌}
use Rattle.kernel_forest.specs.Forest.{Forest}
use Rattle.kernel_forest.specs.Entries.{Entry, cap_at}
use Rattle.kernel_abstract.specs.declared.call.Call.{Call}
use Rattle.kernel_abstract.specs.declared.call.Op.{Op}
use Rattle.kernel_abstract.specs.declared.call.Op.TheVariants as op
use Rattle.kernel_abstract.specs.declared.call.Reply.{Reply}
use Rattle.kernel_abstract.specs.declared.call.ThreadState.{ThreadState}
use Rattle.kernel_abstract.specs.declared.call.ThreadState.TheVariants.{Ready, Inactive, Sending, Receiving}
use Rattle.kernel_abstract.specs.declared.invocation.Change.TheVariants as change
use Rattle.kernel_abstract.specs.declared.invocation.Service.{Service}
use Rattle.kernel_abstract.specs.declared.invocation.Invocation.{Invocation}
use Rattle.kernel_abstract.specs.declared.invocation.Invocation.TheVariants as invocation
use Rattle.kernel_abstract.specs.declared.reason.Word.TheVariants.{Invoked}
use Rattle.kernel_abstract.specs.declared.reason.Right.TheVariants.{Write, Read}
use Rattle.kernel_abstract.specs.declared.reason.Reason.{Reason}
use Rattle.kernel_abstract.specs.Reasons.{with_refusal}
use Rattle.kernel_abstract.specs.Lookups.{slot_by_word, of_kind}
use Rattle.kernel_abstract.specs.Retyping.{checked_retype}
use Rattle.kernel_abstract.specs.CNodes.{checked_placement}
use Rattle.kernel_abstract.specs.Deletion.{checked_slot, checked_badge}
use Rattle.kernel_abstract.specs.Threads.{checked_tcb, checked_space}
use Rattle.kernel_abstract.specs.Decode.{service_in, invoking, objects_asked, slots_named, checked_invocation, checked_op, checked_call, decoded_call, ensure_ready, ensure_live}
use Rattle.kernel_abstract.specs.Shown.{ThreadView}
use Rattle.kernel_abstract.specs.State.{State, shown, endpoint_at}
use Rattle.kernel_abstract.specs.Step.{Outcome, outcome, performed, where_awaited, is_send_awaited, is_receive_awaited, send_accepted, receive_accepted, step, state_after}
use Rattle.kernel_abstract.proofs.Checks.Walked.{word_passed}
use Rattle.query_reach.specs.Reaching.{leads}
use Rattle.query_reach.specs.Laws.{ReachesNo, is_no_endpoint, LeaveAllSlots}
use Rattle.query_reach.proofs.Refused.{fails_there}

-- a send, or a receive; or a refusal
abbrev IsMessage : Invocation → Type 0
IsMessage (invocation.Send service message block) = ⊤
IsMessage (invocation.Receive service block) = ⊤
IsMessage done = ⊥

abbrev MayBeMessage : {E : Type 0} → Result Invocation E → Type 0
MayBeMessage (Ok done) = IsMessage done
MayBeMessage (Err failure) = ⊤

-- ---- what it does

module _ (p : ProfileName) (A : State) (thread : ℕ) where
  awaited_same : (awaited : Bool) (accepted : Outcome) (reply : Reply) → accepted.state.derivations ≡ A.derivations →
      (where_awaited A awaited accepted reply).state.derivations ≡ A.derivations
  awaited_same true accepted reply same = same
  awaited_same false accepted reply same = refl

  performed_same : (done : Invocation) → IsMessage done → (performed p A thread done).state.derivations ≡ A.derivations
  performed_same (invocation.Send service message true) is = refl
  performed_same (invocation.Send service message false) is =
      awaited_same (is_send_awaited A (endpoint_at A service.endpoint)) (send_accepted A thread service message) _ refl
  performed_same (invocation.Receive service true) is = refl
  performed_same (invocation.Receive service false) is =
      awaited_same (is_receive_awaited A (endpoint_at A service.endpoint)) (receive_accepted A thread service) _ refl
  performed_same (invocation.Retype new) is = absurd is
  performed_same (invocation.Derive placement) is = absurd is
  performed_same (invocation.Move placement) is = absurd is
  performed_same (invocation.Delete slot) is = absurd is
  performed_same (invocation.Revoke slot) is = absurd is
  performed_same (invocation.CancelBadged service) is = absurd is
  performed_same (invocation.SetSpace new) is = absurd is
  performed_same (invocation.Suspend tcb) is = absurd is
  performed_same (invocation.Resume tcb) is = absurd is

  outcome_same : (r : Result Invocation Refusal) → MayBeMessage r → (outcome p A thread r).state.derivations ≡ A.derivations
  outcome_same (Err refusal) is = refl
  outcome_same (Ok done) is = performed_same done is

-- ---- what an endpoint's capability serves

abbrev Fails : {X : Type 0} → Result X Reason → Type 0
Fails (Ok x) = ⊥
Fails (Err reason) = ⊤

fails_on : {X Y : Type 0} (r : Result X Reason) (next : X → Result Y Reason) → Fails r → Fails (r >>= next)
fails_on (Ok x) next h = absurd h
fails_on (Err reason) next h = tt

no_message : {X : Type 0} (kind : X → Invocation) (r : Result X Reason) → Fails r → MayBeMessage (invoking kind r)
no_message kind (Ok x) h = absurd h
no_message kind (Err reason) h = tt

no_untyped : (slot : ℕ) (cap : Cap) → is_no_endpoint cap ≡ false → Fails (of_kind kind.Untyped (record { slot = slot; cap = cap }))
no_untyped slot Null h = tt
no_untyped slot (Untyped base bits free) h = cc
no_untyped slot (Endpoint base badge rights) h = tt
no_untyped slot (CNode base radix guard) h = cc
no_untyped slot (Tcb base) h = cc

no_node : (slot : ℕ) (cap : Cap) → is_no_endpoint cap ≡ false → Fails (of_kind kind.CNode (record { slot = slot; cap = cap }))
no_node slot Null h = tt
no_node slot (Untyped base bits free) h = cc
no_node slot (Endpoint base badge rights) h = tt
no_node slot (CNode base radix guard) h = cc
no_node slot (Tcb base) h = cc

no_tcb : (slot : ℕ) (cap : Cap) → is_no_endpoint cap ≡ false → Fails (checked_tcb slot cap)
no_tcb slot Null h = tt
no_tcb slot (Untyped base bits free) h = cc
no_tcb slot (Endpoint base badge rights) h = tt
no_tcb slot (CNode base radix guard) h = cc
no_tcb slot (Tcb base) h = cc

sends : (r : Result Service Reason) (message : Message) (block : Bool) → MayBeMessage (r >>= λ service. Ok (invocation.Send service message block))
sends (Ok service) message block = tt
sends (Err reason) message block = tt

receives : (r : Result Service Reason) (block : Bool) → MayBeMessage (r >>= λ service. Ok (invocation.Receive service block))
receives (Ok service) block = tt
receives (Err reason) block = tt

module _ (p : ProfileName) (f : Forest Entry) (thread : ℕ) where
  through : (next : ℕ → Result Invocation Reason) (word : ℕ) → ((slot : ℕ) → leads p f thread word ≡ Ok slot → MayBeMessage (next slot)) →
      MayBeMessage (slot_by_word p f Invoked thread word >>= next)
  through next word on = by (slot_by_word p f Invoked thread word) refl
    where
      by : (r : Result ℕ Reason) → slot_by_word p f Invoked thread word ≡ r → MayBeMessage (r >>= next)
      by (Ok slot) is = on slot (word_passed p f Invoked thread word slot is)
      by (Err reason) is = tt

  module _ (none : ReachesNo p f thread is_no_endpoint) where
    there : (word slot : ℕ) → leads p f thread word ≡ Ok slot → is_no_endpoint (cap_at f slot) ≡ false
    there word slot led = fails_there p f thread is_no_endpoint refl none word slot led

    op_message : (o : Op) → MayBeMessage (checked_op p f thread o)
    op_message (op.Retype cap kind size_bits root index depth offset count) =
        through (checked_invocation p f thread (op.Retype cap kind size_bits root index depth offset count)) cap (λ slot led. no_message invocation.Retype (checked_retype p f thread slot (objects_asked kind size_bits root index depth offset count)) (fails_on _ _ (no_untyped slot (cap_at f slot) (there cap slot led))))
    op_message (op.CapCopy cap index depth src_root src_index src_depth rights) =
        through (checked_invocation p f thread (op.CapCopy cap index depth src_root src_index src_depth rights)) cap (λ slot led. no_message invocation.Derive (checked_placement p f thread slot (slots_named index depth src_root src_index src_depth) (change.Copy rights)) (fails_on _ _ (no_node slot (cap_at f slot) (there cap slot led))))
    op_message (op.CapMint cap index depth src_root src_index src_depth rights word) =
        through (checked_invocation p f thread (op.CapMint cap index depth src_root src_index src_depth rights word)) cap (λ slot led. no_message invocation.Derive (checked_placement p f thread slot (slots_named index depth src_root src_index src_depth) (change.Mint rights word)) (fails_on _ _ (no_node slot (cap_at f slot) (there cap slot led))))
    op_message (op.CapMove cap index depth src_root src_index src_depth) =
        through (checked_invocation p f thread (op.CapMove cap index depth src_root src_index src_depth)) cap (λ slot led. no_message invocation.Move (checked_placement p f thread slot (slots_named index depth src_root src_index src_depth) change.Move) (fails_on _ _ (no_node slot (cap_at f slot) (there cap slot led))))
    op_message (op.CapMutate cap index depth src_root src_index src_depth word) =
        through (checked_invocation p f thread (op.CapMutate cap index depth src_root src_index src_depth word)) cap (λ slot led. no_message invocation.Move (checked_placement p f thread slot (slots_named index depth src_root src_index src_depth) (change.Mutate word)) (fails_on _ _ (no_node slot (cap_at f slot) (there cap slot led))))
    op_message (op.CapDelete cap index depth) =
        through (checked_invocation p f thread (op.CapDelete cap index depth)) cap (λ slot led. no_message invocation.Delete (checked_slot p f slot index depth) (fails_on _ _ (no_node slot (cap_at f slot) (there cap slot led))))
    op_message (op.CapRevoke cap index depth) =
        through (checked_invocation p f thread (op.CapRevoke cap index depth)) cap (λ slot led. no_message invocation.Revoke (checked_slot p f slot index depth) (fails_on _ _ (no_node slot (cap_at f slot) (there cap slot led))))
    op_message (op.CancelBadged cap index depth) =
        through (checked_invocation p f thread (op.CancelBadged cap index depth)) cap (λ slot led. no_message invocation.CancelBadged (checked_badge p f slot index depth) (fails_on (checked_slot p f slot index depth) _ (fails_on _ _ (no_node slot (cap_at f slot) (there cap slot led)))))
    op_message (op.Send cap message) =
        through (checked_invocation p f thread (op.Send cap message)) cap (λ slot led. sends (service_in Write slot (cap_at f slot)) message true)
    op_message (op.NbSend cap message) =
        through (checked_invocation p f thread (op.NbSend cap message)) cap (λ slot led. sends (service_in Write slot (cap_at f slot)) message false)
    op_message (op.Recv cap) =
        through (checked_invocation p f thread (op.Recv cap)) cap (λ slot led. receives (service_in Read slot (cap_at f slot)) true)
    op_message (op.NbRecv cap) =
        through (checked_invocation p f thread (op.NbRecv cap)) cap (λ slot led. receives (service_in Read slot (cap_at f slot)) false)
    op_message (op.SetSpace cap root word) =
        through (checked_invocation p f thread (op.SetSpace cap root word)) cap (λ slot led. no_message invocation.SetSpace (checked_space p f thread slot root word) (fails_on _ _ (no_tcb slot (cap_at f slot) (there cap slot led))))
    op_message (op.Suspend cap) =
        through (checked_invocation p f thread (op.Suspend cap)) cap (λ slot led. no_message invocation.Suspend (checked_tcb slot (cap_at f slot)) (no_tcb slot (cap_at f slot) (there cap slot led)))
    op_message (op.Resume cap) =
        through (checked_invocation p f thread (op.Resume cap)) cap (λ slot led. no_message invocation.Resume (checked_tcb slot (cap_at f slot)) (no_tcb slot (cap_at f slot) (there cap slot led)))

ready_message : (state : ThreadState) (found : Result Invocation Reason) → MayBeMessage found → MayBeMessage (ensure_ready state found)
ready_message Ready found is = is
ready_message Inactive found is = tt
ready_message (Sending base) found is = tt
ready_message (Receiving base) found is = tt

live_message : (o : Option ThreadView) (found : Result Invocation Reason) → MayBeMessage found → MayBeMessage (ensure_live o found)
live_message None found is = tt
live_message (Some thread) found is = ready_message thread.state found is

refused_message : (r : Result Invocation Reason) → MayBeMessage r → MayBeMessage (with_refusal r)
refused_message (Ok done) is = is
refused_message (Err reason) is = tt

step_same : (p : ProfileName) (A : State) (call : Call) → ReachesNo p A.derivations call.thread is_no_endpoint →
    (step p A call).state.derivations ≡ A.derivations
unfolding step shown
step_same p A call none =
    outcome_same p A call.thread (decoded_call p (shown A) call)
    (refused_message (checked_call p (shown A) call)
    (live_message _ (checked_op p A.derivations call.thread call.op) (op_message p A.derivations call.thread none call.op)))

pub slots_left : (p : ProfileName) (A : State) (calls : List Call) → LeaveAllSlots p A calls
unfolding state_after
slots_left p A [] none = refl
slots_left p A (call ∷ calls) none =
    let same = step_same p A call none.0 in
    slots_left p (step p A call).state calls
    (subst (λ (f : Forest Entry). Each (λ (c : Call). ReachesNo p f c.thread is_no_endpoint) calls) (sym same) none.1)
    ∙ same
