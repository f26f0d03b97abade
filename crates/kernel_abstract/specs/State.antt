-- The abstract state: the capabilities, and whole histories of sends and receives.
use Rattle.std.specs.Prelude.{ℕ, Bool, not, ◌==◌, ◌&&◌, cond, List, [], ◌∷◌, length, drop, filter, find, Option, None, Some, max, nat_lt}
use Rattle.std.specs.List.{list_any, filter_map}
use Rattle.kernel_forest.specs.Forest.{Forest}
use Rattle.kernel_forest.specs.Entries.{Entry}
use Rattle.ipc_core.specs.declared.waiter.Waiter.{Waiter}
use Rattle.ipc_core.specs.Records.{Instance, same_instance, SendRecord, ReceiveRecord, paired, waiting_list}
use Rattle.kernel_abstract.specs.declared.call.ThreadState.{ThreadState}
use Rattle.kernel_abstract.specs.declared.call.ThreadState.TheVariants.{Ready, Inactive, Sending, Receiving}
use Rattle.kernel_abstract.specs.declared.call.Inbox.{Inbox}
use Rattle.kernel_abstract.specs.Shown.{Shown, ThreadView, threads_of, endpoints_of, table}

-- the abstract state of the kernel
pub record State : Type 0 where
  -- the full slots with their capabilities
  pub derivations : Forest Entry
  -- the number of the call that last made the endpoint, or the thread, at an address; boot is 0
  pub endpoint_birth : ℕ → ℕ
  pub thread_birth : ℕ → ℕ
  -- the accepted sends and the accepted receives, in order
  pub sends : List SendRecord
  pub receives : List ReceiveRecord
  -- whether the send or the receive of the call with a number was cancelled
  pub is_cancelled : ℕ → Bool
  -- whether a thread was made and not resumed, or was suspended
  pub is_inactive : Instance → Bool
  -- the calls so far, refused ones too; a call's number is the count after it
  pub count : ℕ

-- the endpoint, or the thread, that was last made at an address
abbrev pub endpoint_at : State → ℕ → Instance
endpoint_at A base = record { base = base; birth = A.endpoint_birth base }

abbrev pub thread_at : State → ℕ → Instance
thread_at A base = record { base = base; birth = A.thread_birth base }

-- the sends to an endpoint, and the receives from it, less those that were cancelled
abbrev pub sends_to : State → Instance → List SendRecord
sends_to A e = filter (λ (s : SendRecord). same_instance s.endpoint e && not (A.is_cancelled s.number)) A.sends

abbrev pub receives_of : State → Instance → List ReceiveRecord
receives_of A e = filter (λ (a : ReceiveRecord). same_instance a.endpoint e && not (A.is_cancelled a.number)) A.receives

-- what an endpoint delivered: each send with the receive at its place
abbrev pub pairs : State → Instance → List (SendRecord × ReceiveRecord)
pairs A e = paired (sends_to A e) (receives_of A e)

-- the sends, or the receives, that wait: those past the length of the other list
abbrev pub waiting_sends : State → Instance → List SendRecord
waiting_sends A e = drop (length (receives_of A e)) (sends_to A e)

abbrev pub waiting_receives : State → Instance → List ReceiveRecord
waiting_receives A e = drop (length (sends_to A e)) (receives_of A e)

abbrev pub waiters : State → Instance → List Waiter
waiters A e = waiting_list (sends_to A e) (receives_of A e)

-- whether a thread waits to send, or to receive, on the endpoint at an address
abbrev pub is_sending : State → Instance → ℕ → Bool
is_sending A t base = list_any (λ (s : SendRecord). same_instance s.thread t) (waiting_sends A (endpoint_at A base))

abbrev pub is_receiving : State → Instance → ℕ → Bool
is_receiving A t base = list_any (λ (a : ReceiveRecord). same_instance a.thread t) (waiting_receives A (endpoint_at A base))

abbrev pub first_of : Option ℕ → Option ℕ → ThreadState → ThreadState
first_of (Some e) _ other = Sending e
first_of None (Some e) other = Receiving e
first_of None None other = other

-- a thread waits if it has a send or a receive that waits on a live endpoint; else it is Inactive or Ready
abbrev pub state_of : State → Instance → ThreadState
state_of A t =
    first_of (find (is_sending A t) (endpoints_of A.derivations)) (find (is_receiving A t) (endpoints_of A.derivations))
    (cond (A.is_inactive t) Inactive Ready)

-- a pair is completed by the later of its two calls
abbrev pub completion : SendRecord × ReceiveRecord → ℕ
completion p = max p.0.number p.1.number

-- the pair of a receive
abbrev pub pair_of : State → ReceiveRecord → Option (SendRecord × ReceiveRecord)
pair_of A a = find (λ (p : SendRecord × ReceiveRecord). p.1.number == a.number) (pairs A a.endpoint)

-- the pairs with a receive of a thread
abbrev pub deliveries_to : State → Instance → List (SendRecord × ReceiveRecord)
deliveries_to A t = filter_map (pair_of A) (filter (λ (a : ReceiveRecord). same_instance a.thread t) A.receives)

abbrev pub later : SendRecord × ReceiveRecord → Option (SendRecord × ReceiveRecord) → Option (SendRecord × ReceiveRecord)
later p None = Some p
later p (Some q) = cond (nat_lt (completion p) (completion q)) (Some q) (Some p)

abbrev pub last_completed : List (SendRecord × ReceiveRecord) → Option (SendRecord × ReceiveRecord)
last_completed [] = None
last_completed (p ∷ ps) = later p (last_completed ps)

abbrev pub inbox_with : Option (SendRecord × ReceiveRecord) → Option Inbox
inbox_with None = None
inbox_with (Some p) = Some (record { badge = p.0.badge; message = p.0.message })

-- the badge and the message of the pair, with a receive of the thread, that was completed last
abbrev pub inbox_of : State → Instance → Option Inbox
inbox_of A t = inbox_with (last_completed (deliveries_to A t))

abbrev pub thread_view : State → ℕ → ThreadView
thread_view A base =
    record { state = state_of A (thread_at A base); inbox = inbox_of A (thread_at A base) }

-- what is shown of a state
unfoldable pub shown : State → Shown
shown A =
    record {
      derivations = A.derivations;
      threads = table (threads_of A.derivations) (thread_view A);
      endpoints = table (endpoints_of A.derivations) (λ base. waiters A (endpoint_at A base));
    }
