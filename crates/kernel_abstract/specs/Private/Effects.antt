-- These serve the proofs of private functions, no public contract cites them: what a step does to what is shown.
use Rattle.std.specs.Prelude.{◌≡◌, ℕ, Bool, cond, List, [], ◌∷◌, ◌++◌, drop, Option, None, Some, Result, Ok, Err, IsSome, IsSomeAnd}
use Rattle.std.specs.Ordering.{nat_cmp}
use Rattle.std.specs.FinMap.{FinMap, get, insert}
use Rattle.cap_core.specs.declared.profile.ProfileName.{ProfileName}
use Rattle.cap_core.specs.declared.capability.Badge.{Badge}
use Rattle.cap_core.specs.declared.message.Message.{Message}
use Rattle.cap_core.specs.declared.refusal.Refusal.{Refusal}
use Rattle.kernel_forest.specs.Forest.{Forest}
use Rattle.kernel_forest.specs.Entries.{Entry}
use Rattle.ipc_core.specs.declared.waiter.Waiter.{Waiter}
use Rattle.ipc_core.specs.declared.waiter.Waiter.TheVariants.{Sender, Receiver}
use Rattle.ipc_core.specs.declared.waiter.Offer.{Offer}
use Rattle.ipc_core.specs.Waits.{first_receiver, first_sender}
use Rattle.kernel_abstract.specs.declared.call.Call.{Call}
use Rattle.kernel_abstract.specs.declared.call.Reply.{Reply}
use Rattle.kernel_abstract.specs.declared.call.Reply.TheVariants.{Done, Delivered, Waiting, Dropped, Empty, Refused}
use Rattle.kernel_abstract.specs.declared.call.ThreadState.TheVariants.{Ready, Sending, Receiving}
use Rattle.kernel_abstract.specs.declared.invocation.Service.{Service}
use Rattle.kernel_abstract.specs.declared.invocation.NewObjects.{NewObjects}
use Rattle.kernel_abstract.specs.declared.invocation.Invocation.{Invocation}
use Rattle.kernel_abstract.specs.declared.invocation.Invocation.TheVariants as invocation
use Rattle.kernel_abstract.specs.Shown.{Shown, ThreadView, waiting_at, inbox_at, endpoints_of, tcb_base, table}
use Rattle.kernel_abstract.specs.Retyping.{with_objects, new_bases}
use Rattle.kernel_delete.specs.Clear.{clear}
use Rattle.kernel_delete.specs.Revoke.{revoke}
use Rattle.kernel_abstract.specs.CNodes.{with_derived, with_moved}
use Rattle.kernel_abstract.specs.Threads.{with_space}
use Rattle.kernel_abstract.specs.Decode.{decoded_call}
pub use Rattle.kernel_abstract.specs.Private.Endings.{new_thread}
use Rattle.kernel_abstract.specs.Private.Endings.{after_ending, after_suspend, after_resume, after_cancel_badge}

-- the reply, and what is shown after
pub record Effect : Type 0 where
  pub reply : Reply
  pub after : Shown

-- one thread and one waiting list change
abbrev pub changed : Shown → ℕ → ThreadView → ℕ → List Waiter → Shown
changed v t thread e list =
    record v { threads = insert v.threads t thread; endpoints = insert v.endpoints e list }

-- a ready thread to which a message was just delivered
abbrev pub with_message : Badge → Message → ThreadView
with_message badge message = record { state = Ready; inbox = Some (record { badge = badge; message = message }) }

abbrev pub send_waits : Shown → ℕ → Service → Message → List Waiter → Effect
send_waits v t service message list =
    record {
      reply = Waiting;
      after = changed v t (record { state = Sending service.endpoint; inbox = inbox_at v t }) service.endpoint (list ++ Sender t service.badge message ∷ []);
    }

-- what leaves no trace
abbrev pub unchanged : Shown → Reply → Effect
unchanged v reply = record { reply = reply; after = v }

abbrev pub send_to_first : Shown → ℕ → Service → Message → List Waiter → Bool → Option ℕ → Effect
send_to_first v t service message list block None = cond block (send_waits v t service message list) (unchanged v Dropped)
send_to_first v t service message list block (Some to) =
    record {
      reply = Delivered service.endpoint t to service.badge message;
      after = changed v to (with_message service.badge message) service.endpoint (drop 1 list);
    }

-- a send by a thread, which may wait or not, if this is the endpoint's waiting list
abbrev pub send_effect : Shown → ℕ → Service → Message → Bool → List Waiter → Effect
send_effect v t service message block list = send_to_first v t service message list block (first_receiver list)

abbrev pub receive_waits : Shown → ℕ → Service → List Waiter → Effect
receive_waits v t service list =
    record {
      reply = Waiting;
      after = changed v t (record { state = Receiving service.endpoint; inbox = inbox_at v t }) service.endpoint (list ++ Receiver t ∷ []);
    }

abbrev pub receive_from_first : Shown → ℕ → Service → List Waiter → Bool → Option Offer → Effect
receive_from_first v t service list block None = cond block (receive_waits v t service list) (unchanged v Empty)
receive_from_first v t service list block (Some offer) =
    let w = record v { threads = insert v.threads offer.thread (record { state = Ready; inbox = inbox_at v offer.thread }) } in
    record {
      reply = Delivered service.endpoint offer.thread t offer.badge offer.message;
      after = changed w t (with_message offer.badge offer.message) service.endpoint (drop 1 list);
    }

-- a receive by a thread, which may wait or not, if this is the endpoint's waiting list
abbrev pub receive_effect : Shown → ℕ → Service → Bool → List Waiter → Effect
receive_effect v t service block list = receive_from_first v t service list block (first_sender list)

-- the capabilities change: each endpoint that is live after keeps its waiting list, and a new one has none
abbrev pub rearranged : Shown → Forest Entry → Shown
rearranged v f = record v { derivations = f; endpoints = table (endpoints_of f) (waiting_at v) }

abbrev pub with_threads : List ℕ → FinMap nat_cmp ThreadView → FinMap nat_cmp ThreadView
with_threads [] threads = threads
with_threads (base ∷ bases) threads = with_threads bases (insert threads base new_thread)

-- objects are made, and the new threads are inactive
abbrev pub objects_shown : ProfileName → Shown → NewObjects → Shown
objects_shown p v new =
    record (rearranged v (with_objects p new v.derivations)) { threads = with_threads (new_bases tcb_base p new) v.threads }

abbrev pub done : Shown → Effect
done v = record { reply = Done; after = v }

-- what a call whose checks passed does
abbrev pub performed_effect : ProfileName → Shown → ℕ → Invocation → Effect
performed_effect p v t (invocation.Send service message block) = send_effect v t service message block (waiting_at v service.endpoint)
performed_effect p v t (invocation.Receive service block) = receive_effect v t service block (waiting_at v service.endpoint)
performed_effect p v t (invocation.Retype new) = done (objects_shown p v new)
performed_effect p v t (invocation.Derive placement) = done (rearranged v (with_derived p placement v.derivations))
performed_effect p v t (invocation.Move placement) = done (rearranged v (with_moved placement v.derivations))
performed_effect p v t (invocation.Delete slot) = done (after_ending v (clear p slot v.derivations))
performed_effect p v t (invocation.Revoke slot) = done (after_ending v (revoke p slot v.derivations))
performed_effect p v t (invocation.CancelBadged service) = done (after_cancel_badge v service.endpoint service.badge)
performed_effect p v t (invocation.SetSpace new) = done (after_ending v (with_space p new v.derivations))
performed_effect p v t (invocation.Suspend tcb) = done (after_suspend v tcb)
performed_effect p v t (invocation.Resume tcb) = done (after_resume v tcb)

abbrev pub decoded_effect : ProfileName → Shown → ℕ → Result Invocation Refusal → Effect
decoded_effect p v t (Err refusal) = unchanged v (Refused refusal)
decoded_effect p v t (Ok invocation) = performed_effect p v t invocation

-- the step, only by what is shown
abbrev pub effect_of : ProfileName → Shown → Call → Effect
effect_of p v call = decoded_effect p v call.thread (decoded_call p v call)

abbrev pub IsReady : Shown → ℕ → Type 0
IsReady v t = IsSomeAnd (get v.threads t) (λ (thread : ThreadView). thread.state ≡ Ready)

abbrev pub IsLiveEndpoint : Shown → ℕ → Type 0
IsLiveEndpoint v e = IsSome (get v.endpoints e)
