-- What the laws of flows say.
use Rattle.std.specs.Prelude.{◌≡◌, ◌⊎◌, ⊤, ℕ, true, false, List}
use Rattle.std.specs.List.{Contains, AllByRecursion as Each}
use Rattle.cap_core.specs.declared.profile.ProfileName.{ProfileName}
use Rattle.cap_core.specs.declared.capability.Badge.{Badge}
use Rattle.cap_core.specs.declared.capability.Cap.TheVariants.{Endpoint}
use Rattle.cap_core.specs.declared.rights.Rights.{Rights}
use Rattle.cap_core.specs.Rights.{write_bit, read_bit}
use Rattle.cap_core.specs.declared.message.Message.{Message}
use Rattle.ipc_core.specs.declared.waiter.Waiter.TheVariants.{Sender, Receiver}
use Rattle.kernel_abstract.specs.declared.call.Call.{Call}
use Rattle.kernel_abstract.specs.Decode.{has_right}
use Rattle.kernel_abstract.specs.declared.call.Reply.{Reply}
use Rattle.kernel_abstract.specs.declared.call.Reply.TheVariants.{Delivered}
use Rattle.kernel_abstract.specs.Shown.{Shown, waiting_at}
use Rattle.kernel_abstract.specs.State.{State, shown}
use Rattle.kernel_abstract.specs.Step.{state_after, replies_of}
use Rattle.kernel_abstract.specs.Reached.{IsReached}
use Rattle.query_parts.specs.Laws.{OnlyPasses}
use Rattle.query_flow.specs.Flow.{Flow, HoldsWhatMayStand, IsSettled}

-- a call of a thread that is not trusted, or a send or a receive
abbrev pub IsExpected : Flow → Call → Type 0
IsExpected flow call = (flow.trusted call.thread ≡ false) ⊎ OnlyPasses call.op

-- whatever calls these threads make, each slot holds what may stand there
abbrev pub StayHeld : ProfileName → Flow → State → List Call → Type 0
StayHeld p flow A calls =
    IsReached p A → IsSettled p flow → HoldsWhatMayStand flow A.derivations → Each (IsExpected flow) calls →
    HoldsWhatMayStand flow (state_after p A calls).derivations

-- a word of a thread whose root slot lies in set c may lead to a capability to the endpoint with a badge and a right
abbrev pub MayUseByFlow : Flow → ℕ → ℕ → ℕ → Badge → Type 0
MayUseByFlow flow right c endpoint badge =
    (set : ℕ) × ((flow.names c set ≡ true) × ((rights : Rights) × ((flow.may set (Endpoint endpoint badge rights) ≡ true) × (has_right right rights ≡ true))))

-- a thread is shown to wait on an endpoint with this message and badge; or it is trusted, or may send so
abbrev pub WaitsOrSends : Flow → Shown → ℕ → ℕ → Badge → Message → Type 0
WaitsOrSends flow v endpoint thread badge message =
    Contains (waiting_at v endpoint) (Sender thread badge message)
    ⊎ (flow.trusted thread ≡ false → MayUseByFlow flow write_bit (flow.set_of thread) endpoint badge)

-- a thread is shown to wait to receive on an endpoint; or it is trusted, or may receive there
abbrev pub WaitsOrHears : Flow → Shown → ℕ → ℕ → Type 0
WaitsOrHears flow v endpoint thread =
    Contains (waiting_at v endpoint) (Receiver thread)
    ⊎ (flow.trusted thread ≡ false → (badge : Badge) × MayUseByFlow flow read_bit (flow.set_of thread) endpoint badge)

-- a reply shows a delivery from such a thread to such a thread, or of none
abbrev pub TellsOfFlow : Flow → Shown → Reply → Type 0
TellsOfFlow flow v (Delivered endpoint from to badge message) = WaitsOrSends flow v endpoint from badge message × WaitsOrHears flow v endpoint to
TellsOfFlow flow v reply = ⊤

-- each reply to these calls shows a delivery that the flow lets be, or none
abbrev pub TellFlow : ProfileName → Flow → State → List Call → Type 0
TellFlow p flow A calls =
    IsReached p A → IsSettled p flow → HoldsWhatMayStand flow A.derivations → Each (IsExpected flow) calls →
    Each (TellsOfFlow flow (shown A)) (replies_of p A calls)

-- so it is of a list of calls, by what is shown before them
pub record HoldsEver (p : ProfileName) (flow : Flow) (v : Shown) (A : State) (calls : List Call) : Type 0 where
  pub held : HoldsWhatMayStand flow (state_after p A calls).derivations
  pub deliveries : Each (TellsOfFlow flow v) (replies_of p A calls)

-- whatever calls these threads make from a state that is shown, each slot holds what may stand there, and replies show no other deliveries
abbrev pub IsFlowEver : ProfileName → Flow → Shown → Type 0
IsFlowEver p flow v =
    (A : State) → IsReached p A → v ≡ shown A → (calls : List Call) → Each (IsExpected flow) calls → HoldsEver p flow v A calls
