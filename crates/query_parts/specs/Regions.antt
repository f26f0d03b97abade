-- Where the objects come from that the slots of a part name.
use Rattle.std.specs.Prelude.{◌≡◌, ℕ, true, false, Some, List}
use Rattle.std.specs.List.{AllByRecursion as Each}
use Rattle.cap_core.specs.declared.profile.ProfileName.{ProfileName}
use Rattle.cap_core.specs.declared.capability.Cap.{Cap}
use Rattle.cap_core.specs.Objects.{is_null, in_region}
use Rattle.kernel_forest.specs.Forest.{Forest}
use Rattle.kernel_forest.specs.Entries.{Entry, cap_at}
use Rattle.kernel_abstract.specs.declared.call.Call.{Call}
use Rattle.kernel_abstract.specs.State.{State}
use Rattle.kernel_abstract.specs.Step.{state_after}
use Rattle.kernel_abstract.specs.Reached.{IsReached}
use Rattle.query_parts.specs.Parts.{Parts}
use Rattle.query_parts.specs.Laws.{AreClosed, IsAllowed}

-- a slot of the part names the object of a capability, or holds an untyped region around it
abbrev pub IsFromPart : ProfileName → Parts → ℕ → Forest Entry → Cap → Type 0
IsFromPart p parts i f cap = (slot : ℕ) × ((parts.part_of slot ≡ Some i) × (in_region p (cap_at f slot) cap ≡ true))

-- so it was before, for what each full slot of the part holds after
abbrev pub AreFromPart : ProfileName → Parts → ℕ → Forest Entry → Forest Entry → Type 0
AreFromPart p parts i before after =
    (slot : ℕ) → parts.part_of slot ≡ Some i → is_null (cap_at after slot) ≡ false → IsFromPart p parts i before (cap_at after slot)

-- whatever calls the threads of closed parts make, and whatever messages others send and receive, a part names no objects but those
-- that it named, and those in the untyped regions that it held
abbrev pub RegionsStayWithin : ProfileName → Parts → ℕ → State → List Call → Type 0
RegionsStayWithin p parts i A calls =
    IsReached p A → AreClosed p parts A → Each (IsAllowed parts) calls → AreFromPart p parts i A.derivations (state_after p A calls).derivations
