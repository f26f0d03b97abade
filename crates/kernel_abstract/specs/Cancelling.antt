-- Cancellation of records that wait, and the ending of objects, on the abstract state.
use Rattle.std.specs.Prelude.{ℕ, Bool, false, true, not, cond, ◌==◌, ◌&&◌, ◌||◌}
use Rattle.std.specs.List.{list_any}
use Rattle.cap_core.specs.declared.capability.Badge.{Badge}
use Rattle.kernel_forest.specs.Forest.{Forest}
use Rattle.kernel_forest.specs.Entries.{Entry}
use Rattle.ipc_core.specs.Records.{Instance, same_instance, SendRecord, ReceiveRecord}
use Rattle.kernel_abstract.specs.Shown.{threads_of, endpoints_of}
use Rattle.kernel_abstract.specs.State.{State, waiting_sends, waiting_receives}

-- whether a send, or a receive, is open: neither delivered nor cancelled
abbrev pub is_open_send : State → SendRecord → Bool
is_open_send A s = list_any (λ (w : SendRecord). w.number == s.number) (waiting_sends A s.endpoint)

abbrev pub is_open_receive : State → ReceiveRecord → Bool
is_open_receive A a = list_any (λ (w : ReceiveRecord). w.number == a.number) (waiting_receives A a.endpoint)

-- whether a number is that of an open send, or of an open receive, that a test names
abbrev pub cancels_send : State → (SendRecord → Bool) → ℕ → Bool
cancels_send A named n = list_any (λ (s : SendRecord). s.number == n && (is_open_send A s && named s)) A.sends

abbrev pub cancels_receive : State → (ReceiveRecord → Bool) → ℕ → Bool
cancels_receive A named n = list_any (λ (a : ReceiveRecord). a.number == n && (is_open_receive A a && named a)) A.receives

-- the open sends that a test names and the open receives that a test names are cancelled
abbrev pub cancelling : State → (SendRecord → Bool) → (ReceiveRecord → Bool) → State
cancelling A sends receives =
    record A { is_cancelled = λ n. A.is_cancelled n || (cancels_send A sends n || cancels_receive A receives n) }

-- whether an endpoint, or a thread, is live in a forest: its object is, and was not made anew
abbrev pub is_endpoint_live : State → Forest Entry → Instance → Bool
is_endpoint_live A g e = list_any (λ k. e.base == k) (endpoints_of g) && A.endpoint_birth e.base == e.birth

abbrev pub is_thread_live : State → Forest Entry → Instance → Bool
is_thread_live A g t = list_any (λ k. t.base == k) (threads_of g) && A.thread_birth t.base == t.birth

-- whether the endpoint or the thread of a record is not live
abbrev pub is_ended : State → Forest Entry → Instance → Instance → Bool
is_ended A g endpoint thread = not (is_endpoint_live A g endpoint && is_thread_live A g thread)

abbrev pub is_send_ended : State → Forest Entry → SendRecord → Bool
is_send_ended A g s = is_ended A g s.endpoint s.thread

abbrev pub is_receive_ended : State → Forest Entry → ReceiveRecord → Bool
is_receive_ended A g a = is_ended A g a.endpoint a.thread

-- the capabilities become those of a forest, and each open record is cancelled whose endpoint or thread is not live then
abbrev pub ending : State → Forest Entry → State
ending A g = record (cancelling A (is_send_ended A g) (is_receive_ended A g)) { derivations = g }

-- the records of a thread, and the sends to an endpoint that have a badge; badge 0 names none
abbrev pub is_sent_by : Instance → SendRecord → Bool
is_sent_by t s = same_instance s.thread t

abbrev pub is_received_by : Instance → ReceiveRecord → Bool
is_received_by t a = same_instance a.thread t

abbrev pub is_badged_send : Instance → Badge → SendRecord → Bool
is_badged_send e badge s = not (badge.0 == 0) && (same_instance s.endpoint e && s.badge.0 == badge.0)

-- what is open of a thread is cancelled
abbrev pub cancelling_thread : State → Instance → State
cancelling_thread A t = cancelling A (is_sent_by t) (is_received_by t)

-- a thread waits no more, and is inactive or not: suspended it is, resumed it is not
abbrev pub stopping : State → Instance → Bool → State
stopping A t inactive =
    record (cancelling_thread A t) { is_inactive = λ m. cond (same_instance m t) inactive (A.is_inactive m) }

abbrev pub suspending : State → Instance → State
suspending A t = stopping A t true

abbrev pub resuming : State → Instance → State
resuming A t = stopping A t false

-- the open sends to an endpoint that have a badge are cancelled
abbrev pub cancelling_badged : State → Instance → Badge → State
cancelling_badged A e badge = cancelling A (is_badged_send e badge) (λ _. false)
