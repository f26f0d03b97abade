-- The roles of threads and the waiting lists of endpoints say the same, and all in one list do the same.
use Rattle.std.specs.Prelude.{◌≡◌, ℕ, Bool, true, false, List, [], ◌∷◌, map, Some, ⊤}
use Rattle.std.specs.List.{AllByRecursion as Each, list_any}
use Rattle.cap_core.specs.Distinct.{IsApart}
use Rattle.ipc_core.specs.declared.waiter.Waiter.{Waiter}
use Rattle.ipc_core.specs.declared.waiter.Waiter.TheVariants.{Sender, Receiver}
use Rattle.ipc_core.specs.declared.waiter.Role.{Role}
use Rattle.ipc_core.specs.Waits.{Waits, thread_of, role_at, endpoint_of}
use Rattle.ipc_core.specs.Cancelled.{is_thread}

-- whether it waits to send
abbrev pub is_sender : Waiter → Bool
is_sender (Sender thread badge message) = true
is_sender (Receiver thread) = false

-- all of a waiting list send, or all receive: each does what the first does
abbrev pub DoTheSame : List Waiter → Type 0
DoTheSame [] = ⊤
DoTheSame (first ∷ list) = Each (λ x. is_sender x ≡ is_sender first) list

-- so it is on each endpoint
pub record AreAlike (w : Waits) : Type 0 where
  pub queue : (e : ℕ) → DoTheSame (w.queue e)

-- who waits on an endpoint has the role of waiting there, a thread with a role waits on the endpoint that the role names,
-- no thread comes twice in a waiting list, and all in one waiting list send, or all receive
pub record AreRolesAndQueues (w : Waits) : Type 0 where
  pub queued : (e : ℕ) → Each (λ x. w.role (thread_of x) ≡ Some (role_at e x)) (w.queue e)
  pub waits : (t : ℕ) (r : Role) → w.role t ≡ Some r → list_any (is_thread t) (w.queue (endpoint_of r)) ≡ true
  pub once : (e : ℕ) → IsApart (map thread_of (w.queue e))
  pub alike : AreAlike w
