-- The reason of a call: its refusal is the reply, and what is told is so.
use Rattle.std.proofs.Common.{◌≡◌, ℕ, refl, sym, Bool, true, false, Option, None, Some, Result, Ok, Err}
use Rattle.std.specs.Prelude.{option_map, IfSome}
use Rattle.std.specs.FinMap.{get}
use Rattle.cap_core.specs.declared.profile.ProfileName.{ProfileName}
use Rattle.kernel_forest.specs.Forest.{Forest}
use Rattle.kernel_forest.specs.Entries.{Entry}
use Rattle.ipc_core.specs.Records.{SendRecord, ReceiveRecord}
use Rattle.kernel_abstract.specs.declared.call.Call.{Call}
use Rattle.kernel_abstract.specs.declared.call.Reply.{Reply}
use Rattle.kernel_abstract.specs.declared.call.ThreadState.{ThreadState}
use Rattle.kernel_abstract.specs.declared.call.ThreadState.TheVariants as state
use Rattle.kernel_abstract.specs.declared.invocation.Invocation.{Invocation}
use Rattle.kernel_abstract.specs.declared.invocation.Invocation.TheVariants as invocation
use Rattle.kernel_abstract.specs.Shown.{Shown, ThreadView}
use Rattle.kernel_abstract.specs.State.{State, shown, endpoint_at}
use Rattle.kernel_abstract.specs.Step.{Outcome, send_record, receive_record, reply_to_send, reply_to_receive, where_awaited, is_send_awaited, is_receive_awaited, send_accepted, receive_accepted, performed, outcome, step, refusal_in}
use Rattle.kernel_abstract.specs.declared.call.Reply.TheVariants.{Dropped, Empty}
use Rattle.kernel_abstract.specs.declared.reason.Reason.{Reason}
use Rattle.kernel_abstract.specs.Reasons.{refusal_of, with_refusal}
use Rattle.kernel_checks.specs.Facts.{TellsTruly, AreThere, told_by}
use Rattle.kernel_abstract.specs.Decode.{checked_op, ensure_ready, ensure_live, checked_call, reason_in, reason_of}
use Rattle.kernel_checks.proofs.Truths.{op_truly}

ready_truly : (f : Forest Entry) (s : ThreadState) (m : Result Invocation Reason) → TellsTruly f m → TellsTruly f (ensure_ready s m)
ready_truly f state.Ready m h = h
ready_truly f state.Inactive m h = tt
ready_truly f (state.Sending e) m h = tt
ready_truly f (state.Receiving e) m h = tt

live_truly : (f : Forest Entry) (o : Option ThreadView) (m : Result Invocation Reason) → TellsTruly f m → TellsTruly f (ensure_live o m)
live_truly f None m h = tt
live_truly f (Some thread) m h = ready_truly f thread.state m h

pub call_truly : (p : ProfileName) (v : Shown) (call : Call) → TellsTruly v.derivations (checked_call p v call)
call_truly p v call =
    live_truly v.derivations (get v.threads call.thread) (checked_op p v.derivations call.thread call.op) (op_truly p v.derivations call.thread call.op)

pub told_in : (f : Forest Entry) (m : Result Invocation Reason) → TellsTruly f m → IfSome (reason_in m) (λ reason. AreThere f (told_by reason))
told_in f (Ok i) h = tt
told_in f (Err reason) h = h

-- What passes its checks is answered no refusal

sent : (s : SendRecord) (o : Option ReceiveRecord) → refusal_in (reply_to_send s o) ≡ None
sent s None = refl
sent s (Some a) = refl

received : (a : ReceiveRecord) (o : Option SendRecord) → refusal_in (reply_to_receive a o) ≡ None
received a None = refl
received a (Some s) = refl

awaited : (A : State) (t : Bool) (accepted : Outcome) (reply : Reply) → refusal_in accepted.reply ≡ None → refusal_in reply ≡ None →
    refusal_in (where_awaited A t accepted reply).reply ≡ None
awaited A true accepted reply h k = h
awaited A false accepted reply h k = k

passed : (p : ProfileName) (A : State) (thread : ℕ) (i : Invocation) → refusal_in (performed p A thread i).reply ≡ None
passed p A thread (invocation.Send service message true) = sent (send_record A thread service message) _
passed p A thread (invocation.Send service message false) =
    awaited A (is_send_awaited A (endpoint_at A service.endpoint)) (send_accepted A thread service message) Dropped (sent (send_record A thread service message) _) refl
passed p A thread (invocation.Receive service true) = received (receive_record A thread service) _
passed p A thread (invocation.Receive service false) =
    awaited A (is_receive_awaited A (endpoint_at A service.endpoint)) (receive_accepted A thread service) Empty (received (receive_record A thread service) _) refl
passed p A thread (invocation.Retype new) = refl
passed p A thread (invocation.Derive placement) = refl
passed p A thread (invocation.Move placement) = refl
passed p A thread (invocation.Delete slot) = refl
passed p A thread (invocation.Revoke slot) = refl
passed p A thread (invocation.CancelBadged service) = refl
passed p A thread (invocation.SetSpace new) = refl
passed p A thread (invocation.Suspend tcb) = refl
passed p A thread (invocation.Resume tcb) = refl

answered : (p : ProfileName) (A : State) (thread : ℕ) (m : Result Invocation Reason) →
    option_map refusal_of (reason_in m) ≡ refusal_in (outcome p A thread (with_refusal m)).reply
answered p A thread (Ok i) = sym (passed p A thread i)
answered p A thread (Err reason) = refl

pub reason_is : (p : ProfileName) (A : State) (call : Call) → option_map refusal_of (reason_of p (shown A) call) ≡ refusal_in (step p A call).reply
unfolding step
reason_is p A call = answered p A call.thread (checked_call p (shown A) call)
