-- These serve the proofs of private functions, no public contract cites them: what becomes of the threads if objects
-- end.
use Rattle.std.specs.Prelude.{◌≡◌, ℕ, Bool, true, cond, List, [], Option, None, Some, ⊤}
use Rattle.std.specs.FinMap.{get}
use Rattle.cap_core.specs.declared.profile.ProfileName.{ProfileName}
use Rattle.cap_core.specs.declared.capability.Cap.{Cap}
use Rattle.cap_core.specs.declared.capability.Cap.TheVariants.{Null, Untyped, Endpoint, CNode, Tcb}
use Rattle.cap_core.specs.Numbers.{tcb_size}
use Rattle.cap_core.specs.Objects.{same_object}
use Rattle.cap_core.specs.Rights.{all_rights}
use Rattle.ipc_core.specs.declared.waiter.Waiter.{Waiter}
use Rattle.ipc_core.specs.declared.waiter.Role.{Role}
use Rattle.ipc_core.specs.Waits.{Waits, IsEndpointAddress, IsThreadAddress, thread_of, endpoint_of}
use Rattle.ipc_core.specs.Cancelled.{others}
use Rattle.kernel_core.specs.declared.rows.ThreadRow.{ThreadRow}
use Rattle.kernel_core.specs.Rows.{rows_map}

-- the endpoint, or the thread, at an address is among the objects that ended, by a test of the capabilities that name
-- them
abbrev pub ends_endpoint : (Cap → Bool) → ℕ → Bool
ends_endpoint ended e = ended (Endpoint e (record { 0 = 0 }) all_rights)

abbrev pub ends_thread : (Cap → Bool) → ℕ → Bool
ends_thread ended t = ended (Tcb t)

-- a capability names the endpoint, or the thread, at an address
abbrev pub is_endpoint_at : ℕ → Cap → Bool
is_endpoint_at e = same_object (Endpoint e (record { 0 = 0 }) all_rights)

abbrev pub is_thread_at : ℕ → Cap → Bool
is_thread_at t = same_object (Tcb t)

-- an endpoint or a thread stands where one can
abbrev pub StandsIn : ProfileName → ℕ → Cap → Type 0
StandsIn p memory Null = ⊤
StandsIn p memory (Untyped base bits free) = ⊤
StandsIn p memory (Endpoint base badge rights) = IsEndpointAddress p memory base
StandsIn p memory (CNode base radix guard) = ⊤
StandsIn p memory (Tcb base) = IsThreadAddress p memory base

-- how a thread waits that did not end: no more if the endpoint ended
abbrev pub role_left : (Cap → Bool) → Option Role → Option Role
role_left ended None = None
role_left ended (Some role) = cond (ends_endpoint ended (endpoint_of role)) None (Some role)

-- threads that ended have no rows and wait nowhere, and nobody waits on an endpoint that ended
pub record AreLeft (p : ProfileName) (ended : Cap → Bool) (memory memory' : ℕ) (rows rows' : List (Option ThreadRow))
    (w w' : Waits) : Type 0 where
  pub memory_is : memory' ≡ memory
  pub rows_left : (t : ℕ) →
      get (rows_map (tcb_size p) rows') t ≡ cond (ends_thread ended t) None (get (rows_map (tcb_size p) rows) t)
  pub queues_left : (e : ℕ) → w'.queue e ≡
      cond (ends_endpoint ended e) [] (others (λ (x : Waiter). ends_thread ended (thread_of x)) (w.queue e))
  pub roles_left : (t : ℕ) → w'.role t ≡ cond (ends_thread ended t) None (role_left ended (w.role t))

-- so it is if all that ended stood in the memory
abbrev pub HaveEnded : ProfileName → (Cap → Bool) → ℕ → ℕ → List (Option ThreadRow) → List (Option ThreadRow) →
    Waits → Waits → Type 0
HaveEnded p ended memory memory' rows rows' w w' =
    ((c : Cap) → ended c ≡ true → StandsIn p memory c) → AreLeft p ended memory memory' rows rows' w w'
