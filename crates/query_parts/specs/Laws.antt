-- What the laws of confinement say.
use Rattle.std.specs.Prelude.{◌≡◌, ◌⊎◌, ⊤, ℕ, true, Some, None, option_map, List, ◌++◌, Ok}
use Rattle.std.specs.List.{list_all, Contains, AllByRecursion as Each}
use Rattle.cap_core.specs.declared.profile.ProfileName.{ProfileName}
use Rattle.cap_core.specs.declared.capability.Badge.{Badge}
use Rattle.cap_core.specs.declared.capability.Cap.TheVariants.{Endpoint}
use Rattle.cap_core.specs.declared.rights.Rights.{Rights}
use Rattle.cap_core.specs.Rights.{write_bit, read_bit}
use Rattle.ipc_core.specs.Records.{SendRecord, ReceiveRecord}
use Rattle.kernel_abstract.specs.declared.call.Call.{Call}
use Rattle.kernel_abstract.specs.declared.call.Op.{Op}
use Rattle.kernel_abstract.specs.declared.call.Op.TheVariants.{Send, NbSend, Recv, NbRecv}
use Rattle.kernel_forest.specs.Forest.{Forest}
use Rattle.kernel_forest.specs.Entries.{Entry, cap_at}
use Rattle.cspace_core.specs.Target.{target_slot}
use Rattle.kernel_abstract.specs.Lookups.{slot_named}
use Rattle.kernel_abstract.specs.Decode.{has_right}
use Rattle.kernel_abstract.specs.Memory.{IsInMemory}
use Rattle.kernel_abstract.specs.Shown.{Shown, threads_of}
use Rattle.kernel_abstract.specs.State.{State}
use Rattle.kernel_abstract.specs.Step.{step, state_after}
use Rattle.kernel_abstract.specs.Reached.{IsReached}
use Rattle.query_parts.specs.Parts.{Use, Parts, IsWithin, IsClosed, IsUntouched, IsSpared}
use Rattle.query_parts.specs.Order.{is_addressed}

-- a call of a thread of a closed part leaves the part closed
abbrev pub StaysClosed : ProfileName → Parts → ℕ → State → Call → Type 0
StaysClosed p parts i A call =
    IsReached p A → IsClosed p parts i A.derivations → parts.part_of call.thread ≡ Some i →
    IsClosed p parts i (step p A call).state.derivations

-- a call of a thread of a closed part puts nothing new into a slot outside the part
abbrev pub LeavesOthers : ProfileName → Parts → ℕ → State → Call → Type 0
LeavesOthers p parts i A call =
    IsReached p A → IsClosed p parts i A.derivations → parts.part_of call.thread ≡ Some i →
    IsUntouched parts i A.derivations (step p A call).state.derivations

-- a call of a thread of a closed part empties a slot outside the part only of a capability to an object of the part, or to an endpoint that the part may
-- use
abbrev pub TakesOnlyNear : ProfileName → Parts → ℕ → State → Call → Type 0
TakesOnlyNear p parts i A call =
    IsReached p A → IsClosed p parts i A.derivations → parts.part_of call.thread ≡ Some i →
    IsSpared p parts i A.derivations (step p A call).state.derivations

-- a thread names a slot: by a word, or by an index and a depth from the capability that a word leads to
abbrev pub Names : ProfileName → Forest Entry → ℕ → ℕ → Type 0
Names p f thread slot =
    ((word : ℕ) × (slot_named p f (cap_at f thread) word ≡ Ok slot))
    ⊎ ((word : ℕ) × ((root : ℕ) × ((slot_named p f (cap_at f thread) word ≡ Ok root) × ((index : ℕ) × ((depth : ℕ) × (target_slot p (cap_at f) (cap_at f root) index depth ≡ Ok slot))))))

-- a thread of a closed part names no slot outside the part
abbrev pub NamesItsOwn : ProfileName → Parts → ℕ → Forest Entry → ℕ → Type 0
NamesItsOwn p parts i f thread =
    IsClosed p parts i f → parts.part_of thread ≡ Some i → (slot : ℕ) → Names p f thread slot → parts.part_of slot ≡ Some i

-- every part is closed
abbrev pub AreClosed : ProfileName → Parts → State → Type 0
AreClosed p parts A = (i : ℕ) → IsClosed p parts i A.derivations

-- the calling thread lies in some part
abbrev pub IsOfSomePart : Parts → Call → Type 0
IsOfSomePart parts call = (i : ℕ) × (parts.part_of call.thread ≡ Some i)

-- an operation that sends or receives, and does nothing else
abbrev pub OnlyPasses : Op → Type 0
OnlyPasses (Send cap message) = ⊤
OnlyPasses (NbSend cap message) = ⊤
OnlyPasses (Recv cap) = ⊤
OnlyPasses (NbRecv cap) = ⊤
OnlyPasses op = ⊥

-- a call of a thread of some part, or a message of a thread of no part
abbrev pub IsAllowed : Parts → Call → Type 0
IsAllowed parts call = IsOfSomePart parts call ⊎ ((parts.part_of call.thread ≡ None) × OnlyPasses call.op)

-- whatever calls the threads of closed parts make, and whatever messages others send and receive, every part stays closed
abbrev pub StayClosed : ProfileName → Parts → State → List Call → Type 0
StayClosed p parts A calls =
    IsReached p A → AreClosed p parts A → Each (IsAllowed parts) calls → AreClosed p parts (state_after p A calls)

-- a capability to an endpoint, with a badge and a right, may stand in a part
abbrev pub MayUse : ProfileName → Parts → ℕ → ℕ → ℕ → Badge → Type 0
MayUse p parts right i endpoint badge =
    (rights : Rights) × (IsWithin p parts i (Endpoint endpoint badge rights) × (has_right right rights ≡ true))

-- a send: if its thread lies in a part, that part may send to the endpoint with this badge
abbrev pub IsSentWithin : ProfileName → Parts → SendRecord → Type 0
IsSentWithin p parts s = (i : ℕ) → parts.part_of s.thread.base ≡ Some i → MayUse p parts write_bit i s.endpoint.base s.badge

-- a receive: if its thread lies in a part, that part may receive on the endpoint
abbrev pub IsReceivedWithin : ProfileName → Parts → ReceiveRecord → Type 0
IsReceivedWithin p parts a = (i : ℕ) → parts.part_of a.thread.base ≡ Some i → (badge : Badge) × MayUse p parts read_bit i a.endpoint.base badge

-- a send of a thread that lies in a part, and this part may send to the endpoint with this badge
abbrev pub IsSentByPart : ProfileName → Parts → SendRecord → Type 0
IsSentByPart p parts s = (i : ℕ) × ((parts.part_of s.thread.base ≡ Some i) × MayUse p parts write_bit i s.endpoint.base s.badge)

-- a receive of a thread that lies in a part, and this part may receive on the endpoint
abbrev pub IsReceivedByPart : ProfileName → Parts → ReceiveRecord → Type 0
IsReceivedByPart p parts a =
    (i : ℕ) × ((parts.part_of a.thread.base ≡ Some i) × ((badge : Badge) × MayUse p parts read_bit i a.endpoint.base badge))

-- the sends, and the receives, that a state has beyond those of another
abbrev pub SendsOnly : ProfileName → Parts → State → State → Type 0
SendsOnly p parts A B =
    (more : List SendRecord) × ((B.sends ≡ A.sends ++ more) × Each (IsSentWithin p parts) more)

abbrev pub ReceivesOnly : ProfileName → Parts → State → State → Type 0
ReceivesOnly p parts A B =
    (more : List ReceiveRecord) × ((B.receives ≡ A.receives ++ more) × Each (IsReceivedWithin p parts) more)

-- whatever calls the threads of closed parts make, what they send they may send
abbrev pub SendWithin : ProfileName → Parts → State → List Call → Type 0
SendWithin p parts A calls =
    IsReached p A → AreClosed p parts A → Each (IsAllowed parts) calls → SendsOnly p parts A (state_after p A calls)

-- whatever calls the threads of closed parts make, what they receive they may receive
abbrev pub ReceiveWithin : ProfileName → Parts → State → List Call → Type 0
ReceiveWithin p parts A calls =
    IsReached p A → AreClosed p parts A → Each (IsAllowed parts) calls → ReceivesOnly p parts A (state_after p A calls)

-- if the threads of closed parts make all calls, each new send is of a thread of some part, which may send so
abbrev pub SendByParts : ProfileName → Parts → State → List Call → Type 0
SendByParts p parts A calls =
    IsReached p A → AreClosed p parts A → Each (IsOfSomePart parts) calls →
    (more : List SendRecord) × (((state_after p A calls).sends ≡ A.sends ++ more) × Each (IsSentByPart p parts) more)

-- if the threads of closed parts make all calls, each new receive is of a thread of some part, which may receive so
abbrev pub ReceiveByParts : ProfileName → Parts → State → List Call → Type 0
ReceiveByParts p parts A calls =
    IsReached p A → AreClosed p parts A → Each (IsOfSomePart parts) calls →
    (more : List ReceiveRecord) × (((state_after p A calls).receives ≡ A.receives ++ more) × Each (IsReceivedByPart p parts) more)

-- each address of a live thread's control block is a word
abbrev pub LiveThreadsAreAddressed : ProfileName → ℕ → Shown → Type 0
LiveThreadsAreAddressed p memory v = IsInMemory p memory v → list_all (is_addressed p) (threads_of v.derivations) ≡ true

-- parts that are joined: each becomes part of the one with another number, which has its memory and may use what it may
pub record AreJoined (to : ℕ → ℕ) (parts joined : Parts) : Type 0 where
  pub memory : (address : ℕ) → joined.part_of address ≡ option_map to (parts.part_of address)
  pub uses : (i : ℕ) (u : Use) → Contains (parts.uses i) u → Contains (joined.uses (to i)) u

-- if all parts are closed, so are those into which they are joined
abbrev pub JoinedAreClosed : ProfileName → (ℕ → ℕ) → Parts → Parts → State → Type 0
JoinedAreClosed p to parts joined A = AreJoined to parts joined → AreClosed p parts A → AreClosed p joined A
