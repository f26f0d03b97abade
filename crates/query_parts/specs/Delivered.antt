-- Which deliveries the replies to the calls of closed parts' threads show.
use Rattle.std.specs.Prelude.{◌≡◌, ℕ, ◌⊎◌, ⊤, Some, List}
use Rattle.std.specs.List.{AllByRecursion as Each, Contains}
use Rattle.cap_core.specs.declared.profile.ProfileName.{ProfileName}
use Rattle.cap_core.specs.declared.capability.Badge.{Badge}
use Rattle.cap_core.specs.declared.message.Message.{Message}
use Rattle.cap_core.specs.Rights.{write_bit, read_bit}
use Rattle.ipc_core.specs.declared.waiter.Waiter.TheVariants.{Sender, Receiver}
use Rattle.ipc_core.specs.Records.{SendRecord, ReceiveRecord}
use Rattle.kernel_abstract.specs.declared.call.Call.{Call}
use Rattle.kernel_abstract.specs.declared.call.Reply.{Reply}
use Rattle.kernel_abstract.specs.declared.call.Reply.TheVariants.{Delivered}
use Rattle.kernel_abstract.specs.Shown.{Shown, waiting_at}
use Rattle.kernel_abstract.specs.State.{State, shown, waiting_sends, waiting_receives}
use Rattle.kernel_abstract.specs.Step.{replies_of}
use Rattle.kernel_abstract.specs.Deliveries.{delivery}
use Rattle.kernel_abstract.specs.Reached.{IsReached}
use Rattle.query_parts.specs.Parts.{Parts}
use Rattle.query_parts.specs.Laws.{AreClosed, IsAllowed, MayUse, IsSentWithin, IsReceivedWithin}

-- a send that waits in a state, or that the part of its thread may make
abbrev pub WaitsOrIsSentWithin : ProfileName → Parts → State → SendRecord → Type 0
WaitsOrIsSentWithin p parts A s = Contains (waiting_sends A s.endpoint) s ⊎ IsSentWithin p parts s

-- a receive that waits in a state, or that the part of its thread may make
abbrev pub WaitsOrIsReceivedWithin : ProfileName → Parts → State → ReceiveRecord → Type 0
WaitsOrIsReceivedWithin p parts A a = Contains (waiting_receives A a.endpoint) a ⊎ IsReceivedWithin p parts a

-- a reply shows the delivery of such a send to such a receive, on the same endpoint
pub record IsDeliveredWithin (p : ProfileName) (parts : Parts) (A : State) (reply : Reply) : Type 0 where
  pub send : SendRecord
  pub receive : ReceiveRecord
  pub told : reply ≡ delivery (send, receive)
  pub same_endpoint : receive.endpoint ≡ send.endpoint
  pub sent : WaitsOrIsSentWithin p parts A send
  pub received : WaitsOrIsReceivedWithin p parts A receive

-- a reply shows such a delivery, or of none
abbrev pub TellsOnlyWithin : ProfileName → Parts → State → Reply → Type 0
TellsOnlyWithin p parts A (Delivered endpoint from to badge message) = IsDeliveredWithin p parts A (Delivered endpoint from to badge message)
TellsOnlyWithin p parts A reply = ⊤

-- whatever calls the threads of closed parts make, what is delivered may be sent and received, or waited before these calls
abbrev pub DeliverWithin : ProfileName → Parts → State → List Call → Type 0
DeliverWithin p parts A calls =
    IsReached p A → AreClosed p parts A → Each (IsAllowed parts) calls →
    Each (TellsOnlyWithin p parts A) (replies_of p A calls)

-- a thread is shown to wait on an endpoint with this message and badge; or the part in which it lies, if any, may send so
abbrev pub WaitsOrMaySend : ProfileName → Parts → Shown → ℕ → ℕ → Badge → Message → Type 0
WaitsOrMaySend p parts v endpoint thread badge message =
    Contains (waiting_at v endpoint) (Sender thread badge message)
    ⊎ ((i : ℕ) → parts.part_of thread ≡ Some i → MayUse p parts write_bit i endpoint badge)

-- a thread is shown to wait to receive on an endpoint; or the part in which it lies, if any, may receive there
abbrev pub WaitsOrMayReceive : ProfileName → Parts → Shown → ℕ → ℕ → Type 0
WaitsOrMayReceive p parts v endpoint thread =
    Contains (waiting_at v endpoint) (Receiver thread)
    ⊎ ((i : ℕ) → parts.part_of thread ≡ Some i → (badge : Badge) × MayUse p parts read_bit i endpoint badge)

-- a reply shows a delivery from such a thread to such a thread, or of none
abbrev pub TellsOnlyOfThose : ProfileName → Parts → Shown → Reply → Type 0
TellsOnlyOfThose p parts v (Delivered endpoint from to badge message) =
    WaitsOrMaySend p parts v endpoint from badge message × WaitsOrMayReceive p parts v endpoint to
TellsOnlyOfThose p parts v reply = ⊤

-- the same by only the replies, and by what is shown before these calls
abbrev pub TellWithin : ProfileName → Parts → State → List Call → Type 0
TellWithin p parts A calls =
    IsReached p A → AreClosed p parts A → Each (IsAllowed parts) calls →
    Each (TellsOnlyOfThose p parts (shown A)) (replies_of p A calls)
