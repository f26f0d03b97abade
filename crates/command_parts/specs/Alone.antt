-- What it means that a part only passes messages.
use Rattle.std.specs.Prelude.{◌≡◌, ℕ, ◌++◌, Bool, true, ◌==◌, ◌&&◌, Some, List}
use Rattle.std.specs.List.{list_any, AllByRecursion as Each}
use Rattle.cap_core.specs.declared.profile.ProfileName.{ProfileName}
use Rattle.cap_core.specs.declared.capability.Badge.{Badge}
use Rattle.cap_core.specs.Rights.{write_bit}
use Rattle.ipc_core.specs.Records.{SendRecord}
use Rattle.kernel_abstract.specs.declared.call.Call.{Call}
use Rattle.kernel_abstract.specs.Decode.{has_right}
use Rattle.kernel_abstract.specs.Shown.{Shown}
use Rattle.kernel_abstract.specs.State.{State, shown}
use Rattle.kernel_abstract.specs.Step.{state_after}
use Rattle.kernel_abstract.specs.Reached.{IsReached}
use Rattle.query_parts.specs.declared.listed.PartMemory.{PartMemory}
use Rattle.query_parts.specs.declared.listed.PartUse.{PartUse}
use Rattle.query_parts.specs.Listed.{part_at, parts_listed}
use Rattle.query_parts.specs.Laws.{IsAllowed}
use Rattle.query_parts.specs.Ever.{AreConfinedEver}
use Rattle.query_parts.specs.Passing.{AtMostLoses}
use Rattle.command_parts.specs.Takes.{part_slots}
use Rattle.command_parts.specs.Messages.{passes_alone, uses_held}

-- each slot of the part holds what it held, or nothing, whatever calls the threads of parts make, and whatever messages others send and receive
abbrev pub KeepsWhatItHas : ProfileName → List PartMemory → List PartUse → Shown → ℕ → Type 0
KeepsWhatItHas p memory uses v i =
    AreConfinedEver p memory uses v → passes_alone p (part_slots memory v.derivations) i ≡ true →
    (A : State) → IsReached p A → v ≡ shown A → (calls : List Call) → Each (IsAllowed (parts_listed memory uses)) calls →
    AtMostLoses (parts_listed memory uses) i A.derivations (state_after p A calls).derivations

-- a use to send to the endpoint, with this very badge
abbrev pub sends_with : ℕ → Badge → PartUse → Bool
sends_with endpoint badge u = u.endpoint == endpoint && (u.badge.0 == badge.0 && has_right write_bit u.rights)

abbrev pub IsSentByTold : List PartMemory → ℕ → List PartUse → SendRecord → Type 0
IsSentByTold memory i told s = part_at memory s.thread.base ≡ Some i → list_any (sends_with s.endpoint.base s.badge) told ≡ true

-- and each send of its threads on the way is by one of the uses that are written of the part
abbrev pub SendsByTold : ProfileName → List PartMemory → List PartUse → Shown → ℕ → Type 0
SendsByTold p memory uses v i =
    AreConfinedEver p memory uses v → passes_alone p (part_slots memory v.derivations) i ≡ true →
    (A : State) → IsReached p A → v ≡ shown A → (calls : List Call) → Each (IsAllowed (parts_listed memory uses)) calls →
    (more : List SendRecord) × (((state_after p A calls).sends ≡ A.sends ++ more)
    × Each (IsSentByTold memory i (uses_held (part_slots memory v.derivations) i)) more)
