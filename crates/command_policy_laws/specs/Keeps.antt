-- What it is that parts keep to a policy, and that the least parts keep to it where any larger ones do.
use Rattle.std.specs.Prelude.{◌≡◌, ◌≢◌, ◌⊎◌, ⊤, ℕ, Bool, true, Option, Some, List}
use Rattle.std.specs.List.{Contains, AllByRecursion as Each}
use Rattle.cap_core.specs.declared.profile.ProfileName.{ProfileName}
use Rattle.cap_core.specs.declared.capability.Badge.{Badge}
use Rattle.cap_core.specs.declared.capability.Cap.{Cap}
use Rattle.cap_core.specs.declared.capability.Cap.TheVariants.{Endpoint}
use Rattle.cap_core.specs.declared.message.Message.{Message}
use Rattle.cap_core.specs.declared.rights.Rights.{Rights}
use Rattle.cap_core.specs.Rights.{write_bit, read_bit}
use Rattle.ipc_core.specs.declared.waiter.Waiter.TheVariants.{Sender, Receiver}
use Rattle.kernel_forest.specs.Entries.{cap_at}
use Rattle.kernel_abstract.specs.declared.call.Call.{Call}
use Rattle.kernel_abstract.specs.declared.call.Reply.{Reply}
use Rattle.kernel_abstract.specs.declared.call.Reply.TheVariants.{Delivered}
use Rattle.kernel_abstract.specs.Shown.{Shown, waiting_at}
use Rattle.kernel_abstract.specs.State.{State, shown}
use Rattle.kernel_abstract.specs.Step.{state_after, replies_of}
use Rattle.kernel_abstract.specs.Reached.{IsReached}
use Rattle.query_parts.specs.declared.listed.PartMemory.{PartMemory}
use Rattle.query_parts.specs.declared.listed.PartUse.{PartUse}
use Rattle.query_parts.specs.Parts.{Parts, IsWithin}
use Rattle.query_parts.specs.Listed.{part_at, parts_listed}
use Rattle.query_parts.specs.Laws.{IsAllowed, MayUse}
use Rattle.query_parts.specs.Ever.{AreConfinedEver}
use Rattle.query_parts.specs.Least.{AreClosedAround, AreLeast}
use Rattle.command_policy_laws.specs.Takes.{StandBelowOnly}

-- the threads of a part have one group
abbrev pub HaveOneGroup : (ℕ → Option ℕ) → Parts → Type 0
HaveOneGroup group_of parts =
    (t u i g h : ℕ) → parts.part_of t ≡ Some i → parts.part_of u ≡ Some i → group_of t ≡ Some g → group_of u ≡ Some h → g ≡ h

-- each capability to a live endpoint that may stand in the part of a thread, its group may hold
abbrev pub HoldOnly : ProfileName → (ℕ → Option ℕ) → (ℕ → Bool) → (ℕ → ℕ → Badge → Rights → Bool) → Parts → Type 0
HoldOnly p group_of is_live may_hold parts =
    (t i g endpoint : ℕ) (badge : Badge) (rights : Rights) → parts.part_of t ≡ Some i → group_of t ≡ Some g → is_live endpoint ≡ true →
    IsWithin p parts i (Endpoint endpoint badge rights) → may_hold g endpoint badge rights ≡ true

-- a thread is shown to wait on an endpoint with this message and badge; or it lies in a part that may send so
abbrev pub WaitsOrPartSends : ProfileName → Parts → Shown → ℕ → ℕ → Badge → Message → Type 0
WaitsOrPartSends p parts v endpoint thread badge message =
    Contains (waiting_at v endpoint) (Sender thread badge message)
    ⊎ ((i : ℕ) × ((parts.part_of thread ≡ Some i) × MayUse p parts write_bit i endpoint badge))

-- a thread is shown to wait to receive on an endpoint; or it lies in a part that may receive there
abbrev pub WaitsOrPartHears : ProfileName → Parts → Shown → ℕ → ℕ → Type 0
WaitsOrPartHears p parts v endpoint thread =
    Contains (waiting_at v endpoint) (Receiver thread)
    ⊎ ((i : ℕ) × ((parts.part_of thread ≡ Some i) × ((badge : Badge) × MayUse p parts read_bit i endpoint badge)))

-- what a thread may send, and a thread of another group receive, may pass between these groups
abbrev pub PassOnly : ProfileName → (ℕ → Option ℕ) → (ℕ → ℕ → Badge → ℕ → Bool) → Shown → Parts → Type 0
PassOnly p group_of may_pass v parts =
    (t u g h endpoint : ℕ) (badge : Badge) (message : Message) → group_of t ≡ Some g → group_of u ≡ Some h → g ≢ h →
    WaitsOrPartSends p parts v endpoint t badge message → WaitsOrPartHears p parts v endpoint u → may_pass g endpoint badge h ≡ true

pub record KeepPolicy (p : ProfileName) (group_of : ℕ → Option ℕ) (is_live : ℕ → Bool) (may_hold : ℕ → ℕ → Badge → Rights → Bool)
    (may_pass : ℕ → ℕ → Badge → ℕ → Bool) (v : Shown) (parts : Parts) : Type 0 where
  pub apart : HaveOneGroup group_of parts
  pub holds : HoldOnly p group_of is_live may_hold parts
  pub passes : PassOnly p group_of may_pass v parts

-- if some parts that are closed around the threads keep to a policy, the least parts do: what is written of these is so of all; and
-- if in these no slot stands below one of a group that may not take from its own, none does in the least
abbrev pub LeastKeepMost : ProfileName → List ℕ → List PartMemory → List PartUse → Shown → Type 0
LeastKeepMost p threads memory uses v =
    (group_of : ℕ → Option ℕ) (is_live : ℕ → Bool) (may_hold : ℕ → ℕ → Badge → Rights → Bool) (may_pass : ℕ → ℕ → Badge → ℕ → Bool)
    (may_take : ℕ → ℕ → Bool) →
    AreLeast p threads memory uses v → (A : State) → IsReached p A → v ≡ shown A → (others : Parts) → AreClosedAround p threads A others →
    (KeepPolicy p group_of is_live may_hold may_pass v others → KeepPolicy p group_of is_live may_hold may_pass v (parts_listed memory uses))
    × (StandBelowOnly group_of may_take A.derivations others → StandBelowOnly group_of may_take A.derivations (parts_listed memory uses))

-- a capability to a live endpoint is one that the group may hold
abbrev pub IsHeld : (ℕ → Bool) → (ℕ → ℕ → Badge → Rights → Bool) → ℕ → Cap → Type 0
IsHeld is_live may_hold g (Endpoint base badge rights) = is_live base ≡ true → may_hold g base badge rights ≡ true
IsHeld is_live may_hold g cap = ⊤

-- a reply tells of no delivery between threads of parts that are of two groups, but of one that may pass
abbrev pub TellsPassed : List PartMemory → (ℕ → Option ℕ) → (ℕ → ℕ → Badge → ℕ → Bool) → Reply → Type 0
TellsPassed memory group_of may_pass (Delivered endpoint from to badge message) =
    (i j g h : ℕ) → part_at memory from ≡ Some i → part_at memory to ≡ Some j → group_of from ≡ Some g → group_of to ≡ Some h → g ≢ h →
    may_pass g endpoint badge h ≡ true
TellsPassed memory group_of may_pass reply = ⊤

-- after these calls each slot of a thread's part holds what its group may hold, and their replies tell of what may pass alone
pub record AreSlotsHeld (p : ProfileName) (group_of : ℕ → Option ℕ) (is_live : ℕ → Bool) (may_hold : ℕ → ℕ → Badge → Rights → Bool)
    (may_pass : ℕ → ℕ → Badge → ℕ → Bool) (memory : List PartMemory) (A : State) (calls : List Call) : Type 0 where
  pub slots : (t i g slot : ℕ) → part_at memory t ≡ Some i → group_of t ≡ Some g → part_at memory slot ≡ Some i →
      IsHeld is_live may_hold g (cap_at (state_after p A calls).derivations slot)
  pub deliveries : Each (TellsPassed memory group_of may_pass) (replies_of p A calls)

-- if confined parts keep to a policy, it is held to, whatever calls the threads of the parts make
abbrev pub WhatIsKeptIsHeld : ProfileName → List PartMemory → List PartUse → Shown → Type 0
WhatIsKeptIsHeld p memory uses v =
    (group_of : ℕ → Option ℕ) (is_live : ℕ → Bool) (may_hold : ℕ → ℕ → Badge → Rights → Bool) (may_pass : ℕ → ℕ → Badge → ℕ → Bool) →
    AreConfinedEver p memory uses v → KeepPolicy p group_of is_live may_hold may_pass v (parts_listed memory uses) →
    (A : State) → IsReached p A → v ≡ shown A → (calls : List Call) → Each (IsAllowed (parts_listed memory uses)) calls →
    AreSlotsHeld p group_of is_live may_hold may_pass memory A calls
