-- The abstract step, and runs of it.
use Rattle.std.specs.Prelude.{ℕ, ◌+◌, Bool, true, false, cond, nat_lt, ◌==◌, ◌&&◌, ◌||◌, List, [], ◌∷◌, ◌++◌, length, slice_get, Option, None, Some, Result, Ok, Err}
use Rattle.std.specs.List.{list_any}
use Rattle.cap_core.specs.declared.profile.ProfileName.{ProfileName}
use Rattle.cap_core.specs.declared.message.Message.{Message}
use Rattle.cap_core.specs.declared.refusal.Refusal.{Refusal}
use Rattle.kernel_forest.specs.Forest.{Forest}
use Rattle.kernel_forest.specs.Entries.{Entry}
use Rattle.kernel_delete.specs.Clear.{clear}
use Rattle.kernel_delete.specs.Revoke.{revoke}
use Rattle.ipc_core.specs.Records.{Instance, SendRecord, ReceiveRecord}
use Rattle.kernel_abstract.specs.declared.call.Call.{Call}
use Rattle.kernel_abstract.specs.declared.call.Reply.{Reply}
use Rattle.kernel_abstract.specs.declared.call.Reply.TheVariants.{Done, Delivered, Waiting, Dropped, Empty, Refused}
use Rattle.kernel_abstract.specs.declared.invocation.Service.{Service}
use Rattle.kernel_abstract.specs.declared.invocation.NewObjects.{NewObjects}
use Rattle.kernel_abstract.specs.declared.invocation.Invocation.{Invocation}
use Rattle.kernel_abstract.specs.declared.invocation.Invocation.TheVariants.{Send, Receive, Retype, Derive, Move, Delete, Revoke, CancelBadged, SetSpace, Suspend, Resume}
use Rattle.kernel_abstract.specs.Decode.{decoded_call}
use Rattle.kernel_abstract.specs.Shown.{tcb_base, endpoint_base}
use Rattle.kernel_abstract.specs.Retyping.{with_objects, new_bases}
use Rattle.kernel_abstract.specs.CNodes.{with_derived, with_moved}
use Rattle.kernel_abstract.specs.Threads.{with_space}
use Rattle.kernel_abstract.specs.Cancelling.{ending, suspending, resuming, cancelling_badged}
use Rattle.kernel_abstract.specs.State.{State, endpoint_at, thread_at, sends_to, receives_of, shown}

pub record Outcome : Type 0 where
  pub reply : Reply
  pub state : State

-- the state after one more call, which changed nothing else
abbrev pub next_call : State → State
next_call A = record A { count = A.count + 1 }

-- a send of this call, with the badge of the invoked capability; a receive of this call
abbrev pub send_record : State → ℕ → Service → Message → SendRecord
send_record A thread service message =
    record {
      number = A.count + 1;
      endpoint = endpoint_at A service.endpoint;
      thread = thread_at A thread;
      badge = service.badge;
      message = message;
    }

abbrev pub receive_record : State → ℕ → Service → ReceiveRecord
receive_record A thread service =
    record { number = A.count + 1; endpoint = endpoint_at A service.endpoint; thread = thread_at A thread }

-- the message is delivered if the record completes a pair: if there is a partner at its place
abbrev pub reply_to_send : SendRecord → Option ReceiveRecord → Reply
reply_to_send s (Some a) = Delivered s.endpoint.base s.thread.base a.thread.base s.badge s.message
reply_to_send s None = Waiting

abbrev pub reply_to_receive : ReceiveRecord → Option SendRecord → Reply
reply_to_receive a (Some s) = Delivered a.endpoint.base s.thread.base a.thread.base s.badge s.message
reply_to_receive a None = Waiting

-- an accepted send, and an accepted receive
abbrev pub send_accepted : State → ℕ → Service → Message → Outcome
send_accepted A thread service message =
    let s = send_record A thread service message in
    record {
      reply = reply_to_send s (slice_get (receives_of A s.endpoint) (length (sends_to A s.endpoint)));
      state = record (next_call A) { sends = A.sends ++ s ∷ [] };
    }

abbrev pub receive_accepted : State → ℕ → Service → Outcome
receive_accepted A thread service =
    let a = receive_record A thread service in
    record {
      reply = reply_to_receive a (slice_get (sends_to A a.endpoint) (length (receives_of A a.endpoint)));
      state = record (next_call A) { receives = A.receives ++ a ∷ [] };
    }

-- whether a receive waits for the next send to an endpoint, and whether a send waits for the next receive
abbrev pub is_send_awaited : State → Instance → Bool
is_send_awaited A e = nat_lt (length (sends_to A e)) (length (receives_of A e))

abbrev pub is_receive_awaited : State → Instance → Bool
is_receive_awaited A e = nat_lt (length (receives_of A e)) (length (sends_to A e))

-- an operation that does not wait is accepted only if it is awaited; otherwise nothing but the count changes
abbrev pub where_awaited : State → Bool → Outcome → Reply → Outcome
where_awaited A awaited accepted reply = cond awaited accepted (record { reply = reply; state = next_call A })

-- the capabilities change, and nothing else
abbrev pub rearranged : State → Forest Entry → Outcome
rearranged A f = record { reply = Done; state = record (next_call A) { derivations = f } }

-- the number of this call if an object stands at one of these addresses, and else its former birth
abbrev pub born_at : State → List ℕ → (ℕ → ℕ) → ℕ → ℕ
born_at A bases birth base = cond (list_any (λ b. base == b) bases) (A.count + 1) (birth base)

-- a thread that this call made at one of these addresses
abbrev pub is_made : State → List ℕ → Instance → Bool
is_made A bases t = list_any (λ b. t.base == b) bases && t.birth == A.count + 1

-- objects are made: they are born by this call, and the new threads are inactive
abbrev pub objects_made : ProfileName → State → NewObjects → Outcome
objects_made p A new =
    record {
      reply = Done;
      state = record (next_call A) {
        derivations = with_objects p new A.derivations;
        endpoint_birth = born_at A (new_bases endpoint_base p new) A.endpoint_birth;
        thread_birth = born_at A (new_bases tcb_base p new) A.thread_birth;
        is_inactive = λ t. A.is_inactive t || is_made A (new_bases tcb_base p new) t;
      };
    }

-- it is done, and the state has one more call
abbrev pub changed_to : State → Outcome
changed_to A = record { reply = Done; state = next_call A }

-- the capabilities become those of a forest, and what is open and then not live is cancelled
abbrev pub objects_ended : State → Forest Entry → Outcome
objects_ended A g = changed_to (ending A g)

-- what a call whose checks passed does
abbrev pub performed : ProfileName → State → ℕ → Invocation → Outcome
performed p A thread (Send service message true) = send_accepted A thread service message
performed p A thread (Send service message false) =
    where_awaited A (is_send_awaited A (endpoint_at A service.endpoint)) (send_accepted A thread service message) Dropped
performed p A thread (Receive service true) = receive_accepted A thread service
performed p A thread (Receive service false) =
    where_awaited A (is_receive_awaited A (endpoint_at A service.endpoint)) (receive_accepted A thread service) Empty
performed p A thread (Retype new) = objects_made p A new
performed p A thread (Derive placement) = rearranged A (with_derived p placement A.derivations)
performed p A thread (Move placement) = rearranged A (with_moved placement A.derivations)
performed p A thread (Delete slot) = objects_ended A (clear p slot A.derivations)
performed p A thread (Revoke slot) = objects_ended A (revoke p slot A.derivations)
performed p A thread (CancelBadged service) = changed_to (cancelling_badged A (endpoint_at A service.endpoint) service.badge)
performed p A thread (SetSpace new) = objects_ended A (with_space p new A.derivations)
performed p A thread (Suspend tcb) = changed_to (suspending A (thread_at A tcb))
performed p A thread (Resume tcb) = changed_to (resuming A (thread_at A tcb))

abbrev pub outcome : ProfileName → State → ℕ → Result Invocation Refusal → Outcome
outcome p A thread (Err refusal) = record { reply = Refused refusal; state = next_call A }
outcome p A thread (Ok invocation) = performed p A thread invocation

-- one call: if a check fails it is refused, and only the count changes
unfoldable pub step : ProfileName → State → Call → Outcome
step p A call = outcome p A call.thread (decoded_call p (shown A) call)

-- the refusal that a reply is, or None
abbrev pub refusal_in : Reply → Option Refusal
refusal_in (Refused refusal) = Some refusal
refusal_in reply = None

-- the replies to a list of calls, and the state after them
unfoldable pub replies_of : ProfileName → State → List Call → List Reply
replies_of p A [] = []
replies_of p A (call ∷ calls) = (step p A call).reply ∷ replies_of p (step p A call).state calls

-- the state after a list of calls
unfoldable pub state_after : ProfileName → State → List Call → State
state_after p A [] = A
state_after p A (call ∷ calls) = state_after p (step p A call).state calls
