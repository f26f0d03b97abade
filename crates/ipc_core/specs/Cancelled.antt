-- Who waits after a cancellation, by waiting lists, and by the histories of an endpoint.
use Rattle.std.specs.Prelude.{ℕ, Bool, false, cond, not, ◌==◌, List, [], ◌++◌, length, take, drop, filter, None}
use Rattle.std.specs.List.{list_any}
use Rattle.cap_core.specs.declared.capability.Badge.{Badge}
use Rattle.ipc_core.specs.declared.waiter.Waiter.{Waiter}
use Rattle.ipc_core.specs.declared.waiter.Waiter.TheVariants.{Sender, Receiver}
use Rattle.ipc_core.specs.Records.{SendRecord, ReceiveRecord, waiting_list}
use Rattle.ipc_core.specs.Waits.{Waits, changed, thread_of}

-- what waits is of this thread
abbrev pub is_thread : ℕ → Waiter → Bool
is_thread thread waiter = thread_of waiter == thread

-- it is a sender with this badge
abbrev pub is_sender_with : Badge → Waiter → Bool
is_sender_with badge (Sender thread kept message) = kept.0 == badge.0
is_sender_with badge (Receiver thread) = false

-- those of a waiting list that a test names, and the others in their order
abbrev pub those : (Waiter → Bool) → List Waiter → List Waiter
those names list = filter names list

abbrev pub others : (Waiter → Bool) → List Waiter → List Waiter
others names list = filter (λ waiter. not (names waiter)) list

-- who waits after a thread waits no more
abbrev pub after_cancel_thread : ℕ → Waits → Waits
after_cancel_thread thread w =
    record { queue = λ e. others (is_thread thread) (w.queue e); role = changed w.role thread None }

-- on an endpoint, those that a test names wait no more
abbrev pub after_cancel : ℕ → (Waiter → Bool) → Waits → Waits
after_cancel e names w =
    record {
      queue = changed w.queue e (others names (w.queue e));
      role = λ t. cond (list_any (is_thread t) (those names (w.queue e))) None (w.role t);
    }

-- who waits after the sends with a badge on an endpoint are cancelled
abbrev pub after_cancel_badge : ℕ → Badge → Waits → Waits
after_cancel_badge e badge w = after_cancel e (is_sender_with badge) w

-- nobody waits on the endpoint any more
abbrev pub after_cancel_endpoint : ℕ → Waits → Waits
after_cancel_endpoint e w =
    record {
      queue = changed w.queue e [];
      role = λ t. cond (list_any (is_thread t) (w.queue e)) None (w.role t);
    }

-- records of which the first ones, so many, are delivered: of the others, those that a test names are cancelled
abbrev pub standing_less : {X : Type 0} → (X → Bool) → ℕ → List X → List X
standing_less names delivered records = take delivered records ++ filter (λ r. not (names r)) (drop delivered records)

-- the sends that stand after a cancellation, and the receives
abbrev pub sends_less : (SendRecord → Bool) → List SendRecord → List ReceiveRecord → List SendRecord
sends_less names sends receives = standing_less names (length receives) sends

abbrev pub receives_less : (ReceiveRecord → Bool) → List SendRecord → List ReceiveRecord → List ReceiveRecord
receives_less names sends receives = standing_less names (length sends) receives

-- who waits by the histories, less the sends and the receives that the tests name
abbrev pub waiting_less : (SendRecord → Bool) → (ReceiveRecord → Bool) → List SendRecord → List ReceiveRecord → List Waiter
waiting_less of_sends of_receives sends receives = waiting_list (sends_less of_sends sends receives) (receives_less of_receives sends receives)

-- the records of a thread
abbrev pub is_sent_by : ℕ → SendRecord → Bool
is_sent_by thread s = s.thread.base == thread

-- a record of a receive is of this thread
abbrev pub is_received_by : ℕ → ReceiveRecord → Bool
is_received_by thread a = a.thread.base == thread

-- the sends with a badge
abbrev pub is_sent_with : Badge → SendRecord → Bool
is_sent_with badge s = s.badge.0 == badge.0
