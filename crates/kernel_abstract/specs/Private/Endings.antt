-- What the ending of objects and a cancellation do to what is shown.
use Rattle.std.specs.Prelude.{ℕ, Bool, cond, ◌==◌, List, filter, Option, None, Some}
use Rattle.std.specs.List.{list_any}
use Rattle.std.specs.FinMap.{get, insert}
use Rattle.cap_core.specs.declared.capability.Badge.{Badge}
use Rattle.kernel_forest.specs.Forest.{Forest}
use Rattle.kernel_forest.specs.Entries.{Entry}
use Rattle.ipc_core.specs.declared.waiter.Waiter.{Waiter}
use Rattle.ipc_core.specs.Waits.{thread_of}
use Rattle.ipc_core.specs.Cancelled.{is_thread, is_sender_with, those, others}
use Rattle.kernel_abstract.specs.declared.call.ThreadState.{ThreadState}
use Rattle.kernel_abstract.specs.declared.call.ThreadState.TheVariants.{Ready, Inactive, Sending, Receiving}
use Rattle.kernel_abstract.specs.Shown.{Shown, ThreadView, threads_of, endpoints_of, table, waiting_at, inbox_at}

-- a thread that was just made
abbrev pub new_thread : ThreadView
new_thread = record { state = Inactive; inbox = None }

-- what a thread does once an endpoint on which it waited may have ended: it is ready if it did
abbrev pub state_among : List ℕ → ThreadState → ThreadState
state_among endpoints Ready = Ready
state_among endpoints Inactive = Inactive
state_among endpoints (Sending e) = cond (list_any (λ k. e == k) endpoints) (Sending e) Ready
state_among endpoints (Receiving e) = cond (list_any (λ k. e == k) endpoints) (Receiving e) Ready

-- a thread that was live keeps its inbox; one that was not was just made
abbrev pub view_among : List ℕ → Option ThreadView → ThreadView
view_among endpoints None = new_thread
view_among endpoints (Some thread) = record { state = state_among endpoints thread.state; inbox = thread.inbox }

-- those of a waiting list whose threads are among these
abbrev pub waiting_among : List ℕ → List Waiter → List Waiter
waiting_among threads list = filter (λ (waiter : Waiter). list_any (λ k. thread_of waiter == k) threads) list

-- the capabilities become those of a forest: each thread and each endpoint that is live in it, with whom of these waits
abbrev pub after_ending : Shown → Forest Entry → Shown
after_ending v g =
    record {
      derivations = g;
      threads = table (threads_of g) (λ t. view_among (endpoints_of g) (get v.threads t));
      endpoints = table (endpoints_of g) (λ e. waiting_among (threads_of g) (waiting_at v e));
    }

-- a thread waits no more
abbrev pub after_stop : Shown → ℕ → ThreadState → Shown
after_stop v t state =
    record v {
      threads = insert v.threads t (record { state = state; inbox = inbox_at v t });
      endpoints = table (endpoints_of v.derivations) (λ e. others (is_thread t) (waiting_at v e));
    }

abbrev pub after_suspend : Shown → ℕ → Shown
after_suspend v t = after_stop v t Inactive

abbrev pub after_resume : Shown → ℕ → Shown
after_resume v t = after_stop v t Ready

-- the threads that are named are ready
abbrev pub readied : Bool → Option ThreadView → ThreadView
readied named None = new_thread
readied named (Some thread) = record { state = cond named Ready thread.state; inbox = thread.inbox }

-- a thread, ready if it is among those that a test names on an endpoint
abbrev pub view_released : Shown → ℕ → (Waiter → Bool) → ℕ → ThreadView
view_released v e names t = readied (list_any (is_thread t) (those names (waiting_at v e))) (get v.threads t)

-- on an endpoint, those that a test names wait no more
abbrev pub after_release : Shown → ℕ → (Waiter → Bool) → Shown
after_release v e names =
    record v {
      threads = table (threads_of v.derivations) (view_released v e names);
      endpoints = insert v.endpoints e (others names (waiting_at v e));
    }

-- on an endpoint, the senders with a badge wait no more; badge 0 names none
abbrev pub after_cancel_badge : Shown → ℕ → Badge → Shown
after_cancel_badge v e badge = cond (badge.0 == 0) v (after_release v e (is_sender_with badge))
