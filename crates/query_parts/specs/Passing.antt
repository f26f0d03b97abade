-- Parts that only pass messages: they change no slot, and others at most empty slots of theirs.
use Rattle.std.specs.Prelude.{◌≡◌, ◌⊎◌, ⊤, ℕ, true, Some, List, ◌++◌}
use Rattle.std.specs.List.{AllByRecursion as Each}
use Rattle.cap_core.specs.declared.profile.ProfileName.{ProfileName}
use Rattle.cap_core.specs.declared.capability.Cap.{Cap}
use Rattle.cap_core.specs.declared.capability.Cap.TheVariants.{Null, Endpoint}
use Rattle.cap_core.specs.declared.rights.Rights.{Rights}
use Rattle.cap_core.specs.Rights.{write_bit}
use Rattle.cspace_core.specs.Inside.{IsSlotOf}
use Rattle.ipc_core.specs.Records.{SendRecord}
use Rattle.kernel_forest.specs.Forest.{Forest}
use Rattle.kernel_forest.specs.Entries.{Entry, cap_at}
use Rattle.kernel_abstract.specs.declared.call.Call.{Call}
use Rattle.kernel_abstract.specs.Decode.{has_right}
use Rattle.kernel_abstract.specs.State.{State}
use Rattle.kernel_abstract.specs.Step.{state_after}
use Rattle.kernel_abstract.specs.Reached.{IsReached}
use Rattle.query_parts.specs.Parts.{Parts}
use Rattle.query_parts.specs.Laws.{AreClosed, IsAllowed}

-- an endpoint's capability, or none
abbrev pub IsForMessages : Cap → Type 0
IsForMessages Null = ⊤
IsForMessages (Endpoint base badge rights) = ⊤
IsForMessages cap = ⊥

-- each slot of a CNode that a capability in the part names holds an endpoint's capability, or none
abbrev pub PassesAlone : ProfileName → Parts → ℕ → Forest Entry → Type 0
PassesAlone p parts i f =
    (holder slot : ℕ) → parts.part_of holder ≡ Some i → IsSlotOf p (cap_at f holder) slot → IsForMessages (cap_at f slot)

-- each slot of the part holds what it held, or nothing
abbrev pub AtMostLoses : Parts → ℕ → Forest Entry → Forest Entry → Type 0
AtMostLoses parts i before after =
    (slot : ℕ) → parts.part_of slot ≡ Some i → (cap_at after slot ≡ cap_at before slot) ⊎ (cap_at after slot ≡ Null)

-- whatever calls the threads of closed parts make, and whatever messages others send and receive, a part that only passes messages
-- gets no other capability
abbrev pub GetsNothing : ProfileName → Parts → ℕ → State → List Call → Type 0
GetsNothing p parts i A calls =
    IsReached p A → AreClosed p parts A → PassesAlone p parts i A.derivations → Each (IsAllowed parts) calls →
    AtMostLoses parts i A.derivations (state_after p A calls).derivations

-- a send: if its thread lies in the part, a slot of the part holds a capability to the endpoint with this badge and Write
abbrev pub IsSentByHeld : Parts → ℕ → State → SendRecord → Type 0
IsSentByHeld parts i A s =
    parts.part_of s.thread.base ≡ Some i →
    (slot : ℕ) × ((rights : Rights) × ((parts.part_of slot ≡ Some i) × ((cap_at A.derivations slot ≡ Endpoint s.endpoint.base s.badge rights) × (has_right write_bit rights ≡ true))))

-- the threads of such a part send only by what its slots held in the beginning
abbrev pub SendsByHeld : ProfileName → Parts → ℕ → State → List Call → Type 0
SendsByHeld p parts i A calls =
    IsReached p A → AreClosed p parts A → PassesAlone p parts i A.derivations → Each (IsAllowed parts) calls →
    (more : List SendRecord) × (((state_after p A calls).sends ≡ A.sends ++ more) × Each (IsSentByHeld parts i A) more)
