-- What the laws of endpoints and of waiting threads say.
use Rattle.std.specs.Prelude.{◌≡◌, ◌≤◌, false, true, List, [], All, filter}
use Rattle.cap_core.specs.declared.profile.ProfileName.{ProfileName}
use Rattle.ipc_core.specs.Records.{Instance, SendRecord, ReceiveRecord}
use Rattle.kernel_abstract.specs.declared.call.Call.{Call}
use Rattle.kernel_abstract.specs.declared.call.ThreadState.TheVariants.{Sending, Receiving}
use Rattle.kernel_abstract.specs.State.{State, sends_to, receives_of, waiting_sends, waiting_receives, waiters, pairs, state_of}
use Rattle.kernel_abstract.specs.Step.{state_after}
use Rattle.kernel_abstract.specs.Reached.{IsReached}
use Rattle.kernel_abstract.specs.Deliveries.{is_live}
use Rattle.kernel_abstract.specs.Cancelling.{is_open_send, is_open_receive, is_thread_live}

-- on an endpoint that is not live nobody waits
abbrev pub HasNobodyWaiting : ProfileName → State → Instance → Type 0
HasNobodyWaiting p A e = IsReached p A → is_live A e ≡ false → waiters A e ≡ []

-- an endpoint that was born and is not live is never live again, and its pairs stay as they are
abbrev pub StaysEnded : ProfileName → State → List Call → Instance → Type 0
StaysEnded p A calls e =
    IsReached p A → e.birth ≤ A.count → is_live A e ≡ false → is_live (state_after p A calls) e ≡ false

-- an endpoint that is not live gains no pair of a send and a receive by further calls
abbrev pub KeepsItsPairs : ProfileName → State → List Call → Instance → Type 0
KeepsItsPairs p A calls e =
    IsReached p A → e.birth ≤ A.count → is_live A e ≡ false → pairs (state_after p A calls) e ≡ pairs A e

-- what waits on an endpoint is what is open of its records
abbrev pub WaitsWhereOpen : ProfileName → State → Instance → Type 0
WaitsWhereOpen p A e =
    IsReached p A →
    (waiting_sends A e ≡ filter (is_open_send A) (sends_to A e)) ×
    (waiting_receives A e ≡ filter (is_open_receive A) (receives_of A e))

-- the thread of each send that waits at an endpoint is shown to send there
abbrev pub TellsItsSenders : ProfileName → State → Instance → Type 0
TellsItsSenders p A e =
    IsReached p A → All (λ (s : SendRecord). state_of A s.thread ≡ Sending e.base) (waiting_sends A e)

-- in a state that is reached, each thread whose receive waits at an endpoint is shown to wait there
abbrev pub TellsItsReceivers : ProfileName → State → Instance → Type 0
TellsItsReceivers p A e =
    IsReached p A → All (λ (a : ReceiveRecord). state_of A a.thread ≡ Receiving e.base) (waiting_receives A e)

-- the thread of each send that waits is live
abbrev pub HasLiveSenders : ProfileName → State → Instance → Type 0
HasLiveSenders p A e =
    IsReached p A → All (λ (s : SendRecord). is_thread_live A A.derivations s.thread ≡ true) (waiting_sends A e)

-- in a state that is reached, each receive that waits at an endpoint is of a live thread
abbrev pub HasLiveReceivers : ProfileName → State → Instance → Type 0
HasLiveReceivers p A e =
    IsReached p A → All (λ (a : ReceiveRecord). is_thread_live A A.derivations a.thread ≡ true) (waiting_receives A e)
