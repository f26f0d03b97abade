-- What is shown of a kernel's state: capabilities and their derivation, live threads, and live endpoints.
use Rattle.std.specs.Prelude.{ℕ, List, [], map, Option, None, Some, is_some, Bool, unwrap_or, option_map, option_and_then}
use Rattle.std.specs.List.{filter_map}
use Rattle.std.specs.Ordering.{nat_cmp}
use Rattle.std.specs.FinMap.{FinMap, get, from_entries}
use Rattle.cap_core.specs.declared.capability.Cap.{Cap}
use Rattle.cap_core.specs.declared.capability.Cap.TheVariants.{Endpoint, Tcb}
use Rattle.kernel_forest.specs.Forest.{Forest}
use Rattle.kernel_forest.specs.Entries.{Entry, caps, first_child}
use Rattle.ipc_core.specs.declared.waiter.Waiter.{Waiter}
use Rattle.kernel_abstract.specs.declared.call.ThreadState.{ThreadState}
use Rattle.kernel_abstract.specs.declared.call.Inbox.{Inbox}

-- what is shown of a live thread: what it does, and the last message that was delivered to it
pub record ThreadView : Type 0 where
  pub state : ThreadState
  pub inbox : Option Inbox

-- the derivation forest, each live thread by its address, and the waiting list of each live endpoint by its address
pub record Shown : Type 0 where
  pub derivations : Forest Entry
  pub threads : FinMap nat_cmp ThreadView
  pub endpoints : FinMap nat_cmp (List Waiter)

-- a value for each key
abbrev pub table : {X : Type 0} → List ℕ → (ℕ → X) → FinMap nat_cmp X
table keys f = from_entries (map (λ k. (k, f k)) keys)

abbrev pub tcb_base : Cap → Option ℕ
tcb_base (Tcb base) = Some base
tcb_base cap = None

abbrev pub endpoint_base : Cap → Option ℕ
endpoint_base (Endpoint base badge rights) = Some base
endpoint_base cap = None

-- an object is live while some slot holds a capability that names it: the live threads, and the live endpoints
abbrev pub threads_of : Forest Entry → List ℕ
threads_of f = filter_map tcb_base (caps f)

abbrev pub endpoints_of : Forest Entry → List ℕ
endpoints_of f = filter_map endpoint_base (caps f)

-- what a thread does, and what was delivered to it last; None if no live thread is at the address
abbrev pub state_at : Shown → ℕ → Option ThreadState
state_at v t = option_map (λ (thread : ThreadView). thread.state) (get v.threads t)

-- what was delivered last to the thread at an address
abbrev pub inbox_at : Shown → ℕ → Option Inbox
inbox_at v t = option_and_then (λ (thread : ThreadView). thread.inbox) (get v.threads t)

-- the waiting list of an endpoint, empty if no live endpoint is at the address
abbrev pub waiting_at : Shown → ℕ → List Waiter
waiting_at v e = unwrap_or (get v.endpoints e) []

-- whether a slot has a child
abbrev pub has_child : ℕ → Forest Entry → Bool
has_child slot f = is_some (first_child slot f)
