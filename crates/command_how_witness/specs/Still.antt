-- Still parts: their threads can do nothing but send and receive, so what they can do is known from what they hold; and what they
-- may pass to each other, passes.
use Rattle.std.specs.Prelude.{◌≡◌, ◌≢◌, ◌⊎◌, ⊤, ℕ, ◌+◌, true, List, [], ◌∷◌, ◌++◌, length, Some}
use Rattle.std.specs.List.{AllByRecursion as Each}
use Rattle.cap_core.specs.declared.profile.ProfileName.{ProfileName}
use Rattle.cap_core.specs.declared.capability.Badge.{Badge}
use Rattle.cap_core.specs.declared.capability.Cap.TheVariants.{CNode, Endpoint}
use Rattle.cap_core.specs.declared.message.Message.{Message}
use Rattle.cap_core.specs.declared.rights.Rights.{Rights}
use Rattle.cap_core.specs.Rights.{write_bit, read_bit}
use Rattle.cspace_core.specs.Inside.{IsSlotOf}
use Rattle.kernel_forest.specs.Forest.{Forest}
use Rattle.kernel_forest.specs.Entries.{Entry, cap_at}
use Rattle.kernel_abstract.specs.declared.call.Call.{Call}
use Rattle.kernel_abstract.specs.declared.call.Op.{Op}
use Rattle.kernel_abstract.specs.declared.call.Op.TheVariants.{Send, Recv}
use Rattle.kernel_abstract.specs.declared.call.Reply.{Reply}
use Rattle.kernel_abstract.specs.declared.call.Reply.TheVariants.{Delivered}
use Rattle.kernel_abstract.specs.Decode.{has_right}
use Rattle.kernel_abstract.specs.Reached.{IsReached}
use Rattle.kernel_abstract.specs.Shown.{Shown, waiting_at}
use Rattle.kernel_abstract.specs.State.{State, shown}
use Rattle.kernel_abstract.specs.Step.{replies_of, state_after}
use Rattle.query_parts.specs.Parts.{Parts}
use Rattle.command_never.specs.Still.{IsReadyToPass, IsStill}

-- a call is of a thread of a still part
abbrev pub IsOfStillPart : ProfileName → Parts → Shown → Call → Type 0
IsOfStillPart p parts v call = (i : ℕ) × ((parts.part_of call.thread ≡ Some i) × IsStill p parts i v)

-- whatever calls the threads of still parts make, every slot stays as it is
abbrev pub ChangesNoSlot : ProfileName → Parts → State → List Call → Type 0
ChangesNoSlot p parts A calls = Each (IsOfStillPart p parts (shown A)) calls → (state_after p A calls).derivations ≡ A.derivations

-- ---- what passes between two threads that are ready to pass, as the live threads of still parts are

-- a slot of a thread's CNode holds a capability to an endpoint, with this badge and this right
pub record HoldsEndpoint (p : ProfileName) (f : Forest Entry) (right thread endpoint : ℕ) (badge : Badge) : Type 0 where
  pub slot : ℕ
  pub rights : Rights
  pub inside : IsSlotOf p (cap_at f thread) slot
  pub cap : cap_at f slot ≡ Endpoint endpoint badge rights
  pub allows : has_right right rights ≡ true

abbrev pub IsSend : Op → Type 0
IsSend (Send cap message) = ⊤
IsSend op = ⊥

abbrev pub IsReceive : Op → Type 0
IsReceive (Recv cap) = ⊤
IsReceive op = ⊥

-- a call is a send of the one thread, or a receive of the other
abbrev pub SendsOrReceives : ℕ → ℕ → Call → Type 0
SendsOrReceives from to call = ((call.thread ≡ from) × IsSend call.op) ⊎ ((call.thread ≡ to) × IsReceive call.op)

-- only such calls are needed for a message to pass: two, and one for each thread that waits on the endpoint before. The last reply shows it
pub record PassesMessage (p : ProfileName) (A : State) (endpoint from to : ℕ) (badge : Badge) (message : Message) : Type 0 where
  pub calls : List Call
  pub kinds : Each (SendsOrReceives from to) calls
  pub many : length calls ≡ length (waiting_at (shown A) endpoint) + 2
  pub earlier : List Reply
  pub answered : replies_of p A calls ≡ earlier ++ Delivered endpoint from to badge message ∷ []

-- if the one thread holds a capability to an endpoint with Write, and the other one with Read, each message passes, with the
-- badge of the one's capability
abbrev pub CanPass : ProfileName → State → ℕ → ℕ → ℕ → Badge → Badge → Message → Type 0
CanPass p A endpoint from to badge other message =
    IsReached p A → IsReadyToPass p (shown A) from → IsReadyToPass p (shown A) to → from ≢ to →
    HoldsEndpoint p A.derivations write_bit from endpoint badge → HoldsEndpoint p A.derivations read_bit to endpoint other →
    PassesMessage p A endpoint from to badge message
