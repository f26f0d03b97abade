-- These serve proofs, no public contract cites them: who waits, by what it is shown to send; and slots of which none comes twice.
use Rattle.std.specs.Prelude.{◌≡◌, ◌==◌, ℕ, false, List, [], ◌∷◌, Option, Some, None, map}
use Rattle.std.specs.List.{AllByRecursion as Each}
use Rattle.ipc_core.specs.declared.waiter.Waiter.{Waiter}
use Rattle.ipc_core.specs.declared.waiter.Waiter.TheVariants.{Sender, Receiver}
use Rattle.ipc_core.specs.declared.waiter.Offer.{Offer}
use Rattle.ipc_core.specs.Waits.{thread_of}
use Rattle.kernel_abstract.specs.Shown.{Shown, waiting_at}
use Rattle.kernel_abstract.specs.Waiting.{offer_at}

-- a thread that waits, and what it sends
abbrev pub waiter_by : ℕ → Option Offer → Waiter
waiter_by thread None = Receiver thread
waiter_by thread (Some offer) = Sender thread offer.badge offer.message

abbrev pub waiter_shown : Shown → ℕ → Waiter
waiter_shown v thread = waiter_by thread (offer_at v thread)

-- the threads that wait on an endpoint
abbrev pub threads_waiting_at : Shown → ℕ → List ℕ
threads_waiting_at v e = map thread_of (waiting_at v e)

-- none of these comes twice, by tests that compute
abbrev pub AreWaitingApart : List ℕ → Type 0
AreWaitingApart [] = Unit {0}
AreWaitingApart (n ∷ ns) = Each (λ m. (m == n) ≡ false) ns × AreWaitingApart ns
