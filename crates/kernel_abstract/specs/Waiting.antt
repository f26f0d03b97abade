-- Who waits, by what is shown: the waiting lists of endpoints, and what threads do.
use Rattle.std.specs.Prelude.{◌≡◌, ◌≢◌, ℕ, ◌+◌, true, map, Option, Some, None, option_map, slice_get}
use Rattle.std.specs.List.{list_any, AllByRecursion as Each}
use Rattle.cap_core.specs.Distinct.{IsApart}
use Rattle.ipc_core.specs.declared.waiter.Waiter.{Waiter}
use Rattle.ipc_core.specs.declared.waiter.Waiter.TheVariants.{Sender, Receiver}
use Rattle.ipc_core.specs.Waits.{thread_of}
use Rattle.ipc_core.specs.Cancelled.{is_thread}
use Rattle.ipc_core.specs.Agreement.{DoTheSame}
use Rattle.ipc_core.specs.declared.waiter.Offer.{Offer}
use Rattle.ipc_core.specs.Offers.{offer_in}
use Rattle.kernel_abstract.specs.declared.call.ThreadState.{ThreadState}
use Rattle.kernel_abstract.specs.declared.call.ThreadState.TheVariants.{Sending, Receiving}
use Rattle.kernel_abstract.specs.Shown.{Shown, state_at, waiting_at}

-- what a thread does that waits so on an endpoint
abbrev pub state_in : ℕ → Waiter → ThreadState
state_in e (Sender thread badge message) = Sending e
state_in e (Receiver thread) = Receiving e

-- who waits on an endpoint is shown to wait there, as the list has it; a thread that is shown to wait on an endpoint is in
-- its list; no thread comes twice in a list; and all in one list send, or all receive
pub record AreStatesAndLists (v : Shown) : Type 0 where
  pub listed : (e : ℕ) → Each (λ x. state_at v (thread_of x) ≡ Some (state_in e x)) (waiting_at v e)
  pub sends : (t e : ℕ) → state_at v t ≡ Some (Sending e) → list_any (is_thread t) (waiting_at v e) ≡ true
  pub receives : (t e : ℕ) → state_at v t ≡ Some (Receiving e) → list_any (is_thread t) (waiting_at v e) ≡ true
  pub once : (e : ℕ) → IsApart (map thread_of (waiting_at v e))
  pub alike : (e : ℕ) → DoTheSame (waiting_at v e)

-- what a thread sends that is shown to wait to send
abbrev pub offer_where : Option ThreadState → ℕ → Shown → Option Offer
offer_where (Some (Sending e)) t v = offer_in t (waiting_at v e)
offer_where other t v = None

-- what the thread at an address sends, if it waits to send
abbrev pub offer_at : Shown → ℕ → Option Offer
offer_at v t = offer_where (state_at v t) t v

-- the thread that waits at a place of an endpoint's waiting list, 0 the first
abbrev pub thread_waiting : Shown → ℕ → ℕ → Option ℕ
thread_waiting v e place = option_map thread_of (slice_get (waiting_at v e) place)

-- if a thread waits, this is the one that waits next after it, if any does; if it waits nowhere, there is none
pub record IsNextWaiting (v : Shown) (thread : ℕ) (next : Option ℕ) : Type 0 where
  pub behind : (e place : ℕ) → thread_waiting v e place ≡ Some thread → next ≡ thread_waiting v e (place + 1)
  pub nowhere : ((e place : ℕ) → thread_waiting v e place ≢ Some thread) → next ≡ None
